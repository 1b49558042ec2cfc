use Rattle.std.proofs.Common.{◌≡◌, ℕ, ◌<◌, false, get_or}
use Rattle.std.specs.Prelude.{vec_len}
use Rattle.use_graph.specs.Table.{table_of, is_next}
use Rattle.use_graph.proofs.table.next_row.Given as goal

abbrev pub invariant-loop-node : goal.invariant-loop-node
invariant-loop-node l = (vec_len l.cells ≡ l.node) × ((j : ℕ) → j < l.node → get_or l.cells.items j false ≡ is_next (table_of l.table) l.row j)
