use Rattle.std.proofs.Common.{◌≡◌, ℕ, ◌⊎◌, get_or, true, false}
use Rattle.std.specs.Prelude.{Contains}
use Rattle.item_uses.proofs.reached.mark.Given as goal

abbrev pub invariant-loop-node : goal.invariant-loop-node
invariant-loop-node l = (j : ℕ) → get_or l.flags.items j false ≡ true → (get_or l.initial.flags.items j false ≡ true) ⊎ Contains l.row j
