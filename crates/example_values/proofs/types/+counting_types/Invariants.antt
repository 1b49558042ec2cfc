use Rattle.std.proofs.Common.{◌≡◌, ◌≤◌, drop, length}
use Rattle.model_defs.specs.Types.{types}
use Rattle.value_models.specs.ContainersView.{containers_in}
use Rattle.value_models.specs.TypeView.{types_view}
use Rattle.example_values.specs.Fewest.{places_fewest}
use Rattle.example_values.specs.Known.{rounds_of}
use Rattle.example_values.proofs.types.+counting_types.Given as goal

abbrev pub invariant-places_rounds-loop-left : goal.invariant-places_rounds-loop-left
invariant-places_rounds-loop-left l = (l.left ≤ length l.tys) × (l.whole ≡ places_fewest (rounds_of (containers_in l.places.containers.now) l.rounds) (types (types_view (drop l.left l.tys))))

abbrev pub decreases-places_rounds-loop-left : goal.decreases-places_rounds-loop-left
decreases-places_rounds-loop-left l = l.left
