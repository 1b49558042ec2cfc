-- Words of `sample`, and how it ends.
use Rattle.std.proofs.Common.{◌≡◌, ℕ, zero, suc, ◌≤◌, List, Option, Some, None, ◌∙◌, arith}
use Rattle.schema_tree.specs.declared.fault.Fault.{Fault}
use Rattle.typify_run.specs.declared.report.Report.{Report}
use Rattle.sample_run.specs.Sampled.{EndsSampled}

pub no_sample : {P : Type 0} (o : Option ℕ) (n : ℕ) → Some n ≡ o → o ≡ None → P
no_sample o n e h = absurd (impossible (e ∙ h))
  where
    impossible : Some n ≡ None → ⊥
    impossible k = cc

module _ (n : ℕ) (before after : Option (List ℕ)) where
  -- no status but 0, 5 and 6
  pub within : (status : ℕ) (report : Option Report) (fault : Option Fault) → EndsSampled n before after status report fault → status ≤ 6
  within zero (Some r) None h = omega arith
  within zero None fault h = absurd h
  within zero (Some r) (Some f) h = absurd h
  within (suc zero) report fault h = absurd h
  within (suc (suc zero)) report fault h = absurd h
  within (suc (suc (suc zero))) report fault h = absurd h
  within (suc (suc (suc (suc zero)))) report fault h = absurd h
  within (suc (suc (suc (suc (suc zero))))) report fault h = omega arith
  within (suc (suc (suc (suc (suc (suc zero)))))) report fault h = omega arith
  within (suc (suc (suc (suc (suc (suc (suc s))))))) report fault h = absurd h

  pub not_two : (status : ℕ) (report : Option Report) (fault : Option Fault) → EndsSampled n before after status report fault → status ≡ 2 → ⊥
  not_two zero report fault h e = absurd (omega (arith, e))
  not_two (suc zero) report fault h e = absurd (omega (arith, e))
  not_two (suc (suc zero)) report fault h e = absurd h
  not_two (suc (suc (suc s))) report fault h e = absurd (omega (arith, e))
