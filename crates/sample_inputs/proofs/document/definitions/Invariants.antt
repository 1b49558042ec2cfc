use Rattle.std.proofs.Common.{◌≡◌, ◌≤◌, ◌-◌, map}
use Rattle.describe_laws.specs.Laws.{in_map}
use Rattle.value_writing.specs.Seen.{kept_members}
use Rattle.sample_inputs.specs.Sample.{numbers_from, sample_entry}
use Rattle.sample_inputs.proofs.document.definitions.Given as goal

abbrev pub invariant-loop-left : goal.invariant-loop-left
invariant-loop-left l = (l.left ≤ l.count) × (kept_members l.members.entries ≡ in_map (map (sample_entry l.count) (numbers_from l.left (l.count - l.left))))

abbrev pub decreases-loop-left : goal.decreases-loop-left
decreases-loop-left l = l.left
