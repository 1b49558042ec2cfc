use Rattle.std.proofs.Common.{◌≡◌, ◌≤◌, ◌-◌, ◌+◌}
use Rattle.json_value.specs.View.{kept_view}
use Rattle.sample_inputs.specs.Sample.{nest}
use Rattle.sample_inputs.proofs.values.nest.Given as goal

abbrev pub invariant-loop-left : goal.invariant-loop-left
invariant-loop-left l = (l.left ≤ l.levels) × (kept_view l.value ≡ nest (l.levels - l.left) (l.id + l.left) l.marked)

abbrev pub decreases-loop-left : goal.decreases-loop-left
decreases-loop-left l = l.left
