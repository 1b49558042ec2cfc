-- The items of a space in the order of their ids.
use Rattle.std.specs.Prelude.{ℕ, suc, List, [], ◌∷◌, Option, Some}
use Rattle.entry_defs.specs.Space.{Id, ShapeAt, EntryAt, item_at, Space, entry_at}

pub record ItemAt : Type 0 where
  pub id : Id
  pub name : List ℕ
  pub shape : ShapeAt

-- the entry of that id, where it is an item, before others
abbrev pub item_then : Id → EntryAt → List ItemAt → List ItemAt
item_then i (item_at n s) is = record { id = i; name = n; shape = s } ∷ is
item_then i _ is = is

abbrev pub items_from : Id → Space → List ItemAt
items_from i [] = []
items_from i (e ∷ es) = item_then i e (items_from (suc i) es)

abbrev pub items_at : Space → List ItemAt
items_at space = items_from 0 space

-- the name of the item at an id
abbrev pub name_of : Option EntryAt → List ℕ
name_of (Some (item_at n s)) = n
name_of _ = []

abbrev pub name_at : Space → Id → List ℕ
name_at space i = name_of (entry_at space i)
