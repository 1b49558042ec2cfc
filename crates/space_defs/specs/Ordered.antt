-- Spaces in which the parts of what is no item have lower ids.
use Rattle.std.specs.Prelude.{◌≡◌, ◌<◌, ℕ, List, [], ◌∷◌, Some}
use Rattle.std.specs.List.{AllByRecursion}
use Rattle.entry_defs.specs.Space.{Id, EntryAt, option_at, vec_at, set_at, map_at, tuple_entry_at, array_at, Space, entry_at}

-- the ids in what is no item and no reference
abbrev pub parts_of : EntryAt → List Id
parts_of (option_at j) = j ∷ []
parts_of (vec_at j) = j ∷ []
parts_of (set_at j) = j ∷ []
parts_of (map_at l j) = l ∷ j ∷ []
parts_of (tuple_entry_at js) = js
parts_of (array_at j n) = j ∷ []
parts_of _ = []

abbrev pub AreBelow : ℕ → List Id → Type 0
AreBelow n js = AllByRecursion (λ j. j < n) js

abbrev pub PartsAreLower : Space → Type 0
PartsAreLower space = (i : Id) (e : EntryAt) → entry_at space i ≡ Some e → AreBelow i (parts_of e)
