-- A space with one entry more, and with an item filled in.
use Rattle.std.specs.Prelude.{zero, suc, [], ◌∷◌, ◌++◌, if◌then◌else◌}
use Rattle.std.specs.List.{list_any}
use Rattle.entry_defs.specs.Space.{Id, ShapeAt, EntryAt, item_at, Space}
use Rattle.entry_space.specs.Keys.{same_key}

-- at the end, where no entry of its key is there
abbrev pub entered : EntryAt → Space → Space
entered e space = if list_any (same_key e) space then space else space ++ e ∷ []

abbrev pub shaped : ShapeAt → EntryAt → EntryAt
shaped s (item_at n t) = item_at n s
shaped s e = e

-- the item at an id with that shape
abbrev pub filled : Id → ShapeAt → Space → Space
filled i s [] = []
filled zero s (e ∷ es) = shaped s e ∷ es
filled (suc i) s (e ∷ es) = e ∷ filled i s es
