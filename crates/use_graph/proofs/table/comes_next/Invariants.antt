use Rattle.std.proofs.Common.{◌≡◌, take, false}
use Rattle.use_graph.specs.Table.{table_of, is_next}
use Rattle.use_graph.proofs.table.comes_next.Given as goal

abbrev pub invariant-loop-used : goal.invariant-loop-used
invariant-loop-used l = is_next (table_of l.table) (take l.used-index l.row) l.node ≡ false
