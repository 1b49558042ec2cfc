use Rattle.std.proofs.Common.{◌≡◌, ℕ, ◌<◌, true}
use Rattle.reference_graph.specs.Graph.{graph_of, row_of}
use Rattle.item_uses.specs.Reached.{AllMarked, is_marked}
use Rattle.item_uses.proofs.reached.leads_nowhere_else.Given as goal

abbrev pub invariant-loop-node : goal.invariant-loop-node
invariant-loop-node l = (i : ℕ) → i < l.node → is_marked l.flags i ≡ true → AllMarked l.flags (row_of (graph_of l.rows) i)
