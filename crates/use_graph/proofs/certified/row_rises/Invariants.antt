use Rattle.std.proofs.Common.{ℕ, ◌<◌, ◌≤◌, get_or}
use Rattle.use_graph.specs.Certificate.{part_at}
use Rattle.use_graph.proofs.certified.row_rises.Given as goal

abbrev pub invariant-loop-used : goal.invariant-loop-used
invariant-loop-used l = (k : ℕ) → k < l.used-index → get_or l.row k 0 < l.count → l.part ≤ part_at l.proposal (get_or l.row k 0)
