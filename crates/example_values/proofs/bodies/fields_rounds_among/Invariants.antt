use Rattle.std.proofs.Common.{◌≡◌, ◌≤◌, drop, length}
use Rattle.model_defs.specs.Reads.{leads_to_option}
use Rattle.value_models.specs.ContainersView.{containers_in}
use Rattle.value_models.specs.VariantView.{fields_in}
use Rattle.example_values.specs.Known.{rounds_of}
use Rattle.example_values.proofs.Backwards.{fields_left}
use Rattle.example_values.proofs.bodies.fields_rounds_among.Given as goal

abbrev pub invariant-loop-left : goal.invariant-loop-left
invariant-loop-left l = (l.left ≤ length l.list) × (l.whole ≡ fields_left (leads_to_option (containers_in l.places.containers.now)) (rounds_of (containers_in l.places.containers.now) l.rounds) (fields_in l.fields) l.left (drop l.left l.list))

abbrev pub decreases-loop-left : goal.decreases-loop-left
decreases-loop-left l = l.left
