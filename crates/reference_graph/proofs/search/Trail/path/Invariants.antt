use Rattle.std.proofs.Common.{ℕ, ◌<◌, reverse}
use Rattle.std.specs.Prelude.{vec_len}
use Rattle.reference_graph.specs.Graph.{Graph, Refers, GoesRound}
use Rattle.reference_graph.specs.Trail.{node_at, IsTrail}
use Rattle.reference_graph.proofs.search.Trail.path.Given as goal

abbrev pub invariant-loop-place : goal.invariant-loop-place
invariant-loop-place l =
    (l.place < vec_len l.self.nodes)
    × ((g : Graph) (start : ℕ) → IsTrail g start l.self → Refers g (node_at l.self l.at) start → GoesRound g start (node_at l.self l.place) (reverse l.path.items))

abbrev pub decreases-loop-place : goal.decreases-loop-place
decreases-loop-place l = l.place
