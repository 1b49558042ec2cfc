-- Numbers that a u64 doesn't hold.
use Rattle.std.specs.Prelude.{ℕ, ◌≤◌, Option, Some, None}

-- a number, if it is one, past the greatest u64
abbrev pub IsTooLarge : Option ℕ → Type 0
IsTooLarge None = Unit {0}
IsTooLarge (Some n) = 18446744073709551616 ≤ n
