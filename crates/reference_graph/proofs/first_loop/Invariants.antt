use Rattle.std.proofs.Common.{ℕ, ◌<◌}
use Rattle.reference_graph.specs.Graph.{graph_of, Leads}
use Rattle.reference_graph.proofs.first_loop.Given as goal

abbrev pub invariant-loop-start : goal.invariant-loop-start
invariant-loop-start l = (k : ℕ) → k < l.start → ¬ (Leads (graph_of l.edges) k k)
