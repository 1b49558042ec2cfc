use Rattle.std.proofs.Common.{ℕ, ◌<◌, get_or}
use Rattle.reference_graph.specs.Ranking.{MayRefer}
use Rattle.reference_graph.proofs.rank.may_refer_to_all.Given as goal

abbrev pub invariant-loop-target : goal.invariant-loop-target
invariant-loop-target l = (k : ℕ) → k < l.target-index → MayRefer l.rank (get_or l.ranks (get_or l.row k 0) 0)
