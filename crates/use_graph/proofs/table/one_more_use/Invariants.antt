use Rattle.std.proofs.Common.{◌≡◌, ℕ, ◌<◌, [], length, get_or}
use Rattle.std.specs.Prelude.{vec_len}
use Rattle.use_graph.specs.Graph.{graph_of, row_of}
use Rattle.use_graph.specs.Table.{table_of, IsNextRow}
use Rattle.use_graph.proofs.table.one_more_use.Given as goal

abbrev pub invariant-loop-row : goal.invariant-loop-row
invariant-loop-row l =
    (vec_len l.more ≡ l.row-index)
    × ((i : ℕ) → i < l.row-index → IsNextRow (table_of l.table) (row_of (graph_of l.uses) i) (length l.uses) (get_or (table_of l.more.items) i []))
