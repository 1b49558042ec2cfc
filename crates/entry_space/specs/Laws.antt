-- What holds of a space when entries are entered and items are filled in.
use Rattle.std.specs.Prelude.{◌≡◌, ◌⊎◌, ℕ, List, [], ◌∷◌, ◌++◌, Bool, true, Some, None}
use Rattle.std.specs.List.{IsDistinct}
use Rattle.entry_defs.specs.Entry.{Target, Entry}
use Rattle.entry_defs.specs.Space.{Id, ShapeAt, newtype_shape_at, EntryAt, item_at, Space, entry_at, Holds}
use Rattle.entry_space.specs.Keys.{same_key, bare}
use Rattle.entry_space.specs.Entered.{entered, filled}

-- at most one entry more, at the end; entries of one key are equal but for the shapes of items
abbrev pub SpacesGrow : Type 0
SpacesGrow =
    ((e : EntryAt) (space : Space) → (entered e space ≡ space) ⊎ (entered e space ≡ space ++ e ∷ []))
    × ((e f : EntryAt) → same_key e f ≡ true → bare e ≡ bare f)

abbrev pub SpacesStayApart : Type 0
SpacesStayApart = (e : EntryAt) (space : Space) → IsDistinct same_key space → IsDistinct same_key (entered e space)

abbrev pub HeldTreesStay : Type 0
HeldTreesStay = (leads : Target → Id → Bool) (e : EntryAt) (space : Space) (t : Entry) (i : Id) → Holds leads space t i → Holds leads (entered e space) t i

-- an item that is entered before its parts are: a newtype of itself
abbrev pub is_open : List ℕ → Id → EntryAt
is_open n i = item_at n (newtype_shape_at i None)

abbrev pub FilledTreesStay : Type 0
FilledTreesStay =
    (leads : Target → Id → Bool) (n : List ℕ) (j : Id) (s : ShapeAt) (space : Space) (t : Entry) (i : Id)
    → entry_at space j ≡ Some (is_open n j) → Holds leads space t i → Holds leads (filled j s space) t i
