use Rattle.std.proofs.Common.{◌≡◌, ◌++◌, drop, map}
use Rattle.reference_graph.specs.Graph.{graph_of}
use Rattle.value_models.specs.ContainersView.{containers_in}
use Rattle.value_models.specs.ContainerView.{containers_view}
use Rattle.item_uses.specs.Uses.{body_places}
use Rattle.item_uses.proofs.uses.rows_of.Given as goal

abbrev pub invariant-loop-container : goal.invariant-loop-container
invariant-loop-container l = graph_of l.rows.items ++ map (body_places (containers_in l.places.containers.now)) (containers_view (drop l.container-index l.containers)) ≡ map (body_places (containers_in l.places.containers.now)) (containers_view l.containers)
