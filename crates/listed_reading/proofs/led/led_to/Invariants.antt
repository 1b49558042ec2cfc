use Rattle.std.proofs.Common.{◌≡◌, drop}
use Rattle.tree_types.specs.View.{target_view}
use Rattle.listed_reading.proofs.TargetSteps.{found_in}
use Rattle.listed_reading.proofs.led.led_to.Given as goal

abbrev pub invariant-loop-entry : goal.invariant-loop-entry
invariant-loop-entry l = found_in (target_view l.target) l.table.targets.items ≡ found_in (target_view l.target) (drop l.entry-index l.table.targets.items)
