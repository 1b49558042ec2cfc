use Rattle.std.proofs.Common.{ℕ, ◌<◌, get_or}
use Rattle.reference_graph.specs.Graph.{graph_of, Refers}
use Rattle.reference_graph.specs.Ranking.{MayRefer}
use Rattle.reference_graph.proofs.rank.is_ranking.Given as goal

abbrev pub invariant-loop-node : goal.invariant-loop-node
invariant-loop-node l = (i : ℕ) → i < l.node → (j : ℕ) → Refers (graph_of l.edges) i j → MayRefer (get_or l.ranks i 0) (get_or l.ranks j 0)
