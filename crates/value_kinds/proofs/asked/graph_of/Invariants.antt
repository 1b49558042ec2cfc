use Rattle.std.proofs.Common.{◌≡◌, ◌++◌, drop, map}
use Rattle.reference_graph.specs.Graph.{graph_of}
use Rattle.value_models.specs.ContainerView.{containers_view}
use Rattle.value_kinds.specs.Rounds.{asked_places}
use Rattle.value_kinds.proofs.asked.graph_of.Given as goal

abbrev pub invariant-loop-container : goal.invariant-loop-container
invariant-loop-container l = graph_of l.rows.items ++ map (asked_places l.names) (containers_view (drop l.container-index l.containers)) ≡ map (asked_places l.names) (containers_view l.containers)
