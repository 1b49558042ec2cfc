use Rattle.std.proofs.Common.{ℕ, ◌<◌, ◌⊎◌}
use Rattle.use_graph.specs.Graph.{graph_of}
use Rattle.use_graph.specs.Certificate.{IsRoot, GoesBack}
use Rattle.use_graph.proofs.certified.all_go_back.Given as goal

abbrev pub invariant-loop-node : goal.invariant-loop-node
invariant-loop-node l = (i : ℕ) → i < l.node → IsRoot l.proposal i ⊎ GoesBack (graph_of l.uses) l.proposal i
