use Rattle.std.proofs.Common.{◌≡◌, drop, map}
use Rattle.json_value.specs.View.{kept_view}
use Rattle.convert_trees.specs.Told.{first_odd}
use Rattle.convert_trees.proofs.faults.first_odd.Given as goal

abbrev pub invariant-loop-value : goal.invariant-loop-value
invariant-loop-value l = first_odd (map kept_view l.value-items) ≡ first_odd (map kept_view (drop l.value-index l.value-items))
