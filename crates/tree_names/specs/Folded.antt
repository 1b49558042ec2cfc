-- The names of a table as they come: those of the targets first, and then those in the trees, one tree after another.
use Rattle.std.specs.Prelude.{List, []}
use Rattle.entry_defs.specs.Table.{TargetEntry, Table}
use Rattle.naming_defs.specs.Names.{Names, keys, after_targets, named_targets, named_trees}
use Rattle.naming_defs.specs.Good.{is_good_name}

-- with the names that are taken after them
abbrev pub targets_first : List TargetEntry → Names × List TargetEntry
targets_first xs =
    let beside = keys is_good_name xs in named_targets is_good_name beside [] xs (after_targets is_good_name beside [] xs)

-- the names that are taken after all trees
abbrev pub taken_after : Table → Names
taken_after t = (named_trees is_good_name (keys is_good_name t.targets) t.trees (targets_first t.targets).0).0
