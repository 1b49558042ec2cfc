-- How many schemas may stand in one another, those that merges make with them.
use Rattle.std.specs.Prelude.{ℕ}

-- unfolded where it is counted alone
unfoldable pub most_levels : ℕ
most_levels = 300
