-- Tables whose trees come one after another, and the entries of such a table so far.
use Rattle.std.specs.Prelude.{[], ◌∷◌, ◌++◌, None}
use Rattle.entry_defs.specs.Entry.{Target, Entry}
use Rattle.entry_defs.specs.Space.{Id, Space}
use Rattle.entry_defs.specs.Table.{Table}
use Rattle.naming_defs.specs.Names.{keys, named, named_table}
use Rattle.naming_defs.specs.Good.{is_good_name}
use Rattle.tree_names.specs.Folded.{taken_after}
use Rattle.space_trees.specs.Filled.{ids_in, space_so_far}
use Rattle.space_trees.specs.Placed.{placed}

-- the table with its names
abbrev pub with_names : Table → Table
with_names t = named_table is_good_name t

-- the items that references lead to, alone: stated values are asked by them
abbrev pub led_alone : Table → Table
led_alone t = record { targets = t.targets; trees = [] }

-- the entries of a table, where its trees have come so far
abbrev pub entries_of : Table → Space
entries_of t = space_so_far (with_names t)

-- the id of the item that a reference leads to
abbrev pub target_id : Table → Target → Id
target_id t q = ids_in (with_names t) q

abbrev pub with_tree : Table → Entry → Table
with_tree t e = record { targets = t.targets; trees = t.trees ++ e ∷ [] }

-- one more tree with its names
abbrev pub next_named : Table → Entry → Entry
next_named t e = (named is_good_name (keys is_good_name t.targets) e (taken_after t)).1

-- the id of one more tree
abbrev pub next_id : Table → Entry → Id
next_id t e = (placed (ids_in (with_names t)) None (next_named t e) (entries_of t)).1
