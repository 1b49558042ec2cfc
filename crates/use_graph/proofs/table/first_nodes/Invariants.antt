use Rattle.std.proofs.Common.{◌≡◌, ℕ, ◌<◌, get_or}
use Rattle.std.specs.Prelude.{vec_len}
use Rattle.use_graph.specs.Table.{table_of, IsFirstLike}
use Rattle.use_graph.proofs.table.first_nodes.Given as goal

abbrev pub invariant-loop-node : goal.invariant-loop-node
invariant-loop-node l = (vec_len l.firsts ≡ l.node) × ((i : ℕ) → i < l.node → IsFirstLike (table_of l.table) (get_or l.firsts.items i 0) i)
