use Rattle.std.proofs.Common.{◌≡◌, map, drop}
use Rattle.entry_space.specs.Seen.{seen}
use Rattle.tree_types.specs.View.{target_entry}
use Rattle.space_trees.specs.Filled.{filled_targets}
use Rattle.space_trees.specs.Leading.{ids_of}
use Rattle.space_trees.proofs.table.fill_targets.Given as goal

abbrev pub invariant-loop-target : goal.invariant-loop-target
invariant-loop-target l =
    filled_targets (ids_of l.led) l.place (map target_entry (drop l.target-index l.targets.items)) (seen l.space)
    ≡ filled_targets (ids_of l.led) 0 (map target_entry l.targets.items) (seen l.fn.space)
