use Rattle.std.proofs.Common.{◌≡◌, ℕ, ◌⊎◌, get_or, true, false}
use Rattle.std.specs.Prelude.{Contains}
use Rattle.use_graph.specs.Certificate.{IsAhead}
use Rattle.use_graph.proofs.certified.meet.Given as goal

abbrev pub invariant-loop-used : goal.invariant-loop-used
invariant-loop-used l = (j : ℕ) → get_or l.met.items j false ≡ true → (get_or l.fn.met.items j false ≡ true) ⊎ (Contains l.row j × IsAhead l.proposal l.node j)
