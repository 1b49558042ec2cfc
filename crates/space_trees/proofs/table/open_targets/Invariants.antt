use Rattle.std.proofs.Common.{◌≡◌, map, drop}
use Rattle.entry_space.specs.Seen.{seen}
use Rattle.tree_types.specs.View.{target_entry}
use Rattle.space_trees.specs.Filled.{opened_targets}
use Rattle.space_trees.proofs.table.open_targets.Given as goal

abbrev pub invariant-loop-target : goal.invariant-loop-target
invariant-loop-target l =
    opened_targets (map target_entry (drop l.target-index l.targets.items)) (seen l.space) ≡ opened_targets (map target_entry l.targets.items) (seen l.fn.space)
