use Rattle.std.proofs.Common.{◌≡◌, ◌||◌, drop}
use Rattle.value_kinds.specs.Kinds.{has, kinds_where}
use Rattle.value_kinds.proofs.Turns.{any_external}
use Rattle.value_kinds.proofs.passes.external_kinds.Given as goal

abbrev pub invariant-loop-variant : goal.invariant-loop-variant
invariant-loop-variant l = kinds_where (λ k. has l.kinds k || any_external (drop l.variant-index l.variants) k) ≡ kinds_where (any_external l.variants)
