use Rattle.std.proofs.Common.{◌≡◌, ℕ, get_or, true, false}
use Rattle.use_graph.specs.Graph.{graph_of}
use Rattle.use_graph.specs.Certificate.{IsMet}
use Rattle.use_graph.proofs.certified.met_nodes.Given as goal

abbrev pub invariant-loop-node : goal.invariant-loop-node
invariant-loop-node l = (j : ℕ) → get_or l.met.items j false ≡ true → IsMet (graph_of l.uses) l.proposal j
