use Rattle.reference_graph.specs.Graph.{graph_of}
use Rattle.item_uses.specs.Reached.{AreReached}
use Rattle.item_uses.proofs.reached.marked.Given as goal

abbrev pub invariant-loop-step : goal.invariant-loop-step
invariant-loop-step l = AreReached (graph_of l.rows) l.starts l.flags.items
