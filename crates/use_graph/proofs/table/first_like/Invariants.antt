use Rattle.std.proofs.Common.{ℕ, ◌<◌}
use Rattle.use_graph.specs.Table.{table_of, IsLike}
use Rattle.use_graph.proofs.table.first_like.Given as goal

abbrev pub invariant-loop-first : goal.invariant-loop-first
invariant-loop-first l = (j : ℕ) → j < l.first → IsLike (table_of l.table) j l.node → ⊥
