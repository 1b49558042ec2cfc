-- The names of a space's items in the order of their ids.
use Rattle.std.specs.Prelude.{ℕ, List, [], ◌∷◌}
use Rattle.entry_defs.specs.Space.{EntryAt, item_at, Space}

-- that of an item, before others
abbrev pub name_then : EntryAt → List (List ℕ) → List (List ℕ)
name_then (item_at n s) ns = n ∷ ns
name_then _ ns = ns

abbrev pub item_names : Space → List (List ℕ)
item_names [] = []
item_names (e ∷ es) = name_then e (item_names es)
