use Rattle.std.proofs.Common.{◌≡◌, drop}
use Rattle.model_defs.specs.Model.{container_named}
use Rattle.value_models.specs.ContainerView.{containers_view}
use Rattle.model_evolve.proofs.finding.place_of.Given as goal

abbrev pub invariant-loop-place : goal.invariant-loop-place
invariant-loop-place l = container_named l.name (containers_view (drop l.place l.containers)) ≡ container_named l.name (containers_view l.containers)
