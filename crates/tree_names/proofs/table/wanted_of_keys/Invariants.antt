use Rattle.std.proofs.Common.{ℕ, List, [], map, take}
use Rattle.naming_defs.specs.Names.{keys}
use Rattle.naming_defs.specs.Good.{is_good_name}
use Rattle.good_names.specs.Given.{Stands}
use Rattle.tree_types.specs.View.{target_entry}
use Rattle.tree_names.proofs.table.wanted_of_keys.Given as goal

abbrev pub invariant-loop-target : goal.invariant-loop-target
invariant-loop-target l = (prefix : List ℕ) → Stands l.names prefix [] (keys is_good_name (map target_entry (take l.target-index l.target-items)))
