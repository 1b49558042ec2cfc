-- Words of `sample`, and others.
use Rattle.std.proofs.Common.{◌≡◌, ℕ, Option, Some, None, ◌∙◌}

pub no_sample : {P : Type 0} (o : Option ℕ) (n : ℕ) → Some n ≡ o → o ≡ None → P
no_sample o n e h = absurd (impossible (e ∙ h))
  where
    impossible : Some n ≡ None → ⊥
    impossible k = cc
