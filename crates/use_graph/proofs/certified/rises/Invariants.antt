use Rattle.std.proofs.Common.{ℕ, ◌<◌, ◌≤◌, length}
use Rattle.use_graph.specs.Graph.{graph_of, Uses}
use Rattle.use_graph.specs.Certificate.{part_at}
use Rattle.use_graph.proofs.certified.rises.Given as goal

abbrev pub invariant-loop-node : goal.invariant-loop-node
invariant-loop-node l = (i : ℕ) → i < l.node → (j : ℕ) → Uses (graph_of l.uses) i j → j < length l.uses → part_at l.proposal i ≤ part_at l.proposal j
