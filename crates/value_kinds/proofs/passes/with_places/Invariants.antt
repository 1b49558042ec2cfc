use Rattle.std.proofs.Common.{◌≡◌, ◌||◌, drop}
use Rattle.value_kinds.specs.Kinds.{has, kinds_where}
use Rattle.value_kinds.specs.Rounds.{with_places}
use Rattle.value_kinds.proofs.Turns.{any_place}
use Rattle.value_kinds.proofs.passes.with_places.Given as goal

abbrev pub invariant-loop-place : goal.invariant-loop-place
invariant-loop-place l = kinds_where (λ k. has l.all k || any_place l.kinds (drop l.place-index l.row) k) ≡ with_places l.kinds l.row l.fn.own
