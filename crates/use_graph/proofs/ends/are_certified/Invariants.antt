use Rattle.std.proofs.Common.{ℕ, ◌<◌}
use Rattle.use_graph.specs.Ends.{next_at}
use Rattle.use_graph.specs.Followed.{IsFollowed}
use Rattle.use_graph.proofs.ends.are_certified.Given as goal

abbrev pub invariant-loop-node : goal.invariant-loop-node
invariant-loop-node l = (i : ℕ) → i < l.node → IsFollowed l.answers i (next_at l.next i)
