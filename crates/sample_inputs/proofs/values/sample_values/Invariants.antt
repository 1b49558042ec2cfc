use Rattle.std.proofs.Common.{◌≡◌, ◌≤◌, ◌-◌, ◌++◌, map}
use Rattle.json_value.specs.View.{kept_view}
use Rattle.sample_inputs.specs.Sample.{numbers_from, sample_value}
use Rattle.sample_inputs.proofs.values.sample_values.Given as goal

abbrev pub invariant-loop-number : goal.invariant-loop-number
invariant-loop-number l = (l.number ≤ l.count) × (map kept_view l.values.items ++ map sample_value (numbers_from l.number (l.count - l.number)) ≡ map sample_value (numbers_from 0 l.count))

abbrev pub decreases-loop-number : goal.decreases-loop-number
decreases-loop-number l = l.count - l.number
