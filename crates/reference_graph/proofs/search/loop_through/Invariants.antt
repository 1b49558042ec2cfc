use Rattle.std.proofs.Common.{ℕ, ◌<◌, ◌-◌, length}
use Rattle.reference_graph.specs.Graph.{graph_of}
use Rattle.reference_graph.specs.Trail.{IsTrail, IsDone}
use Rattle.reference_graph.proofs.search.loop_through.Given as goal

abbrev pub invariant-loop-at : goal.invariant-loop-at
invariant-loop-at l = IsTrail (graph_of l.edges) l.start l.trail × ((k : ℕ) → k < l.at → IsDone (graph_of l.edges) l.start l.trail k)

abbrev pub decreases-loop-at : goal.decreases-loop-at
decreases-loop-at l = length l.edges - l.at
