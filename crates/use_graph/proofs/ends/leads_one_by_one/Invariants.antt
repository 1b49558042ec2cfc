use Rattle.std.proofs.Common.{◌≡◌, ℕ, ◌<◌, length, get_or, false}
use Rattle.std.specs.Prelude.{vec_len}
use Rattle.use_graph.specs.Ends.{leads_within}
use Rattle.use_graph.proofs.ends.leads_one_by_one.Given as goal

abbrev pub invariant-loop-node : goal.invariant-loop-node
invariant-loop-node l = (vec_len l.answers ≡ l.node) × ((i : ℕ) → i < l.node → get_or l.answers.items i false ≡ leads_within l.next (length l.next) i)
