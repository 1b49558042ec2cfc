use Rattle.std.proofs.Common.{◌≡◌, [], drop}
use Rattle.name_tables.specs.Names.{all_entered}
use Rattle.value_models.specs.Names.{container_names}
use Rattle.value_models.specs.ContainerView.{containers_view}
use Rattle.item_uses.proofs.places.names_of.Given as goal

abbrev pub invariant-loop-place : goal.invariant-loop-place
invariant-loop-place l = all_entered (container_names l.place (containers_view (drop l.place l.containers))) l.names ≡ all_entered (container_names 0 (containers_view l.containers)) []
