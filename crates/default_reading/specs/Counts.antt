-- How many stated defaults stand in parts and in variants.
use Rattle.std.specs.Prelude.{ℕ, ◌+◌, List, [], ◌∷◌, Some, None}
use Rattle.row_findings.specs.View.{state_view}
use Rattle.tree_types.specs.View.{tree_view}
use Rattle.default_defs.specs.Supplied.{stated_by, stated_in, stated_in_contents}
use Rattle.default_reading.specs.Seen.{Part, Variant, content}

abbrev pub stated_in_part : Part → ℕ
stated_in_part (h, None) = 0
stated_in_part (h, Some x) = stated_by (state_view h.state) + stated_in (tree_view x)

abbrev pub stated_in_cases : List Variant → ℕ
stated_in_cases [] = 0
stated_in_cases (w ∷ ws) = stated_in_contents (content w) + stated_in_cases ws
