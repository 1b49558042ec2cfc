-- Names that derived code has for itself: as items, and where patterns bind them.
use Rattle.std.specs.Prelude.{ℕ, nat_eq, List, Bool, ◌||◌, bytes_eq, codes}
use Rattle.std.specs.List.{starts_with}

-- what the names begin with that serde's derives write, and the modules of the helpers
abbrev pub is_derived : List ℕ → Bool
is_derived n = starts_with nat_eq n (codes "__") || starts_with nat_eq n (codes "_serde") || bytes_eq n (codes "typify_present") || bytes_eq n (codes "typify_defaults")

-- no item's name: the derives bind a `v` too
abbrev pub is_denied : List ℕ → Bool
is_denied n = is_derived n || bytes_eq n (codes "v")
