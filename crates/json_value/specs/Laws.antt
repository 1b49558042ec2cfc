-- What holds of all values.
use Rattle.std.specs.Prelude.{◌≡◌, ℕ, ◌<◌, List, IfSome, IsUtf8, true, Decides, All}
use Rattle.json_value.specs.Value.{Value, Items, Members, text, list, object, same, values, items, entries, members, member_at, is_whole, IsSmall, value_size}

-- `same` decides equality
abbrev pub EqualityIsDecided : Type 0
EqualityIsDecided = (a b : Value) → Decides (same a b) (a ≡ b)

-- the items, and the names and values of the members, are smaller than their owner
abbrev pub ChildrenAreSmaller : Type 0
ChildrenAreSmaller =
    ((vs : Items) → All (λ v. value_size v < value_size (list vs)) (values vs))
    × ((ms : Members) → All (λ e. (value_size (text e.0) < value_size (object ms)) × (value_size e.1 < value_size (object ms))) (entries ms))

-- the parts of a small value are small
abbrev pub PartsAreSmall : Type 0
PartsAreSmall =
    ((vs : Items) → IsSmall (list vs) → All IsSmall (values vs))
    × ((ms : Members) → IsSmall (object ms) → All (λ e. IsUtf8 e.0 × IsSmall e.1) (entries ms))
    × ((k : List ℕ) (ms : Members) → IsSmall (object ms) → IfSome (member_at k ms) IsSmall)

-- small values are whole
abbrev pub SmallIsWhole : Type 0
SmallIsWhole = (v : Value) → IsSmall v → is_whole v ≡ true

-- items and members are their lists
abbrev pub ListsAreItems : Type 0
ListsAreItems =
    ((vs : Items) → items (values vs) ≡ vs)
    × ((vs : List Value) → values (items vs) ≡ vs)
    × ((ms : Members) → members (entries ms) ≡ ms)
    × ((es : List (List ℕ × Value)) → entries (members es) ≡ es)
