use Rattle.std.proofs.Common.{◌≡◌, ◌++◌, drop, map}
use Rattle.value_models.specs.ContainerView.{containers_view}
use Rattle.value_kinds.specs.Claims.{own_kinds}
use Rattle.value_kinds.proofs.passes.owns_of.Given as goal

abbrev pub invariant-loop-container : goal.invariant-loop-container
invariant-loop-container l = l.owns.items ++ map own_kinds (containers_view (drop l.container-index l.containers)) ≡ map own_kinds (containers_view l.containers)
