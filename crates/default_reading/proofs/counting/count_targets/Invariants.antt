use Rattle.std.proofs.Common.{◌≡◌, ◌+◌, drop, map}
use Rattle.tree_types.specs.View.{target_entry}
use Rattle.default_defs.specs.Supplied.{stated_in_targets}
use Rattle.default_reading.proofs.counting.count_targets.Given as goal

abbrev pub invariant-loop-target : goal.invariant-loop-target
invariant-loop-target l = l.count + stated_in_targets (map target_entry (drop l.target-index l.table.targets.items)) ≡ stated_in_targets (map target_entry l.table.targets.items)
