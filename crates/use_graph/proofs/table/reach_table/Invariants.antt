use Rattle.std.proofs.Common.{ℕ, ◌≤◌, ◌-◌, length}
use Rattle.use_graph.specs.Graph.{graph_of}
use Rattle.use_graph.specs.Table.{table_of, IsTable}
use Rattle.use_graph.proofs.table.reach_table.Given as goal

abbrev pub invariant-loop-left : goal.invariant-loop-left
invariant-loop-left l = (l.left ≤ length l.uses) × IsTable (graph_of l.uses) (length l.uses - l.left) (table_of l.table.items)

abbrev pub decreases-loop-left : goal.decreases-loop-left
decreases-loop-left l = l.left
