use Rattle.std.proofs.Common.{ℕ, ◌<◌, get_or}
use Rattle.reference_graph.specs.Graph.{graph_of, row_of}
use Rattle.reference_graph.specs.Trail.{node_at, IsTrail, Extends, IsMet}
use Rattle.reference_graph.proofs.search.Trail.extend.Given as goal

abbrev pub invariant-loop-target : goal.invariant-loop-target
invariant-loop-target l =
    IsTrail (graph_of l.edges) l.start l.self
    × Extends l.fn.self l.self
    × ((k : ℕ) → k < l.target-index → IsMet (graph_of l.edges) l.start l.self (get_or (row_of (graph_of l.edges) (node_at l.fn.self l.at)) k 0))
