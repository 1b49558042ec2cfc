-- Places in tables of names.
use Rattle.std.specs.Prelude.{ℕ, nat_eq, Bool, false, Option, Some, None}

abbrev pub is_at : ℕ → Option ℕ → Bool
is_at i None = false
is_at i (Some j) = nat_eq j i
