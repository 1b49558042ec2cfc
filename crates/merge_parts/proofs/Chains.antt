-- Steps after one another, as the program answers them: `r` is what a step answers, seen by `v`.
use Rattle.std.proofs.Common.{◌≡◌, List, Some, None, sym, subst}
use Rattle.std.specs.Prelude.{Option, option_map, Result, Ok, Err, IfErr, IsErrAnd}
use Rattle.merge_defs.specs.Outcome.{Note, Outcome, and_then, mapped, or_else}
use Rattle.merge_parts.specs.declared.fault.MergeFault.{MergeFault}
use Rattle.merge_parts.specs.Steps.{Steps, Faults}
use Rattle.merge_parts.proofs.Steps.{goes_on, stops, maps, maps_never, or_answer, or_default}
use Rattle.merge_parts.proofs.Faults.{then_faults}

-- what is answered is seen by v
module _ {X A : Type 0} (v : X → A) (r : Option X) {before mid : List Note} {o : Outcome A} where
  seen : (x : X) → r ≡ Some x → Steps before mid o (option_map v r) → Steps before mid o (Some (v x))
  seen x e s = let P : Option X → Type 0 = λ q. Steps before mid o (option_map v q) in subst P e s

  unseen : r ≡ None → Steps before mid o (option_map v r) → Steps before mid o None
  unseen e s = let P : Option X → Type 0 = λ q. Steps before mid o (option_map v q) in subst P e s

  pub then_on : {B : Type 0} {after : List Note} {found : Option B} (k : A → Outcome B) (x : X) → r ≡ Some x → Steps before mid o (option_map v r) → Steps mid after (k (v x)) found → Steps before after (and_then o k) found
  then_on {B} {after} {found} k x e s t = goes_on before mid after o k (v x) found (seen x e s) t

  pub then_stop : {B : Type 0} (k : A → Outcome B) → r ≡ None → Steps before mid o (option_map v r) → Steps {A = B} before mid (and_then o k) None
  then_stop k e s = stops before mid o k (unseen e s)

  pub then_map : {B : Type 0} (f : A → B) (x : X) → r ≡ Some x → Steps before mid o (option_map v r) → Steps before mid (mapped f o) (Some (f (v x)))
  then_map f x e s = maps f before mid o (v x) (seen x e s)

  pub then_map_never : {B : Type 0} (f : A → B) → r ≡ None → Steps before mid o (option_map v r) → Steps {A = B} before mid (mapped f o) None
  then_map_never f e s = maps_never f before mid o (unseen e s)

  pub then_fault : {B : Type 0} (k : A → Outcome B) (d : MergeFault) (x : X) → r ≡ Some x → Steps before mid o (option_map v r) → Faults d (k (v x)) → Faults d (and_then o k)
  then_fault k d x e s h = then_faults before mid d o k (v x) (seen x e s) h

  pub then_or : (d : A) (x : X) → r ≡ Some x → Steps before mid o (option_map v r) → Steps before mid (or_else d o) (Some (v x))
  then_or d x e s = or_answer d before mid o (v x) (seen x e s)

  pub then_default : (d : A) → r ≡ None → Steps before mid o (option_map v r) → Steps before mid (or_else d o) (Some d)
  then_default d e s = or_default d before mid o (unseen e s)

-- the error of a `?` that is handed on as it is
pub err_faults : {T A : Type 0} → (r : Result T MergeFault) (e : MergeFault) (o : Outcome A) → IsErrAnd r (λ f. f ≡ e) → Faults e o → IfErr r (λ f. Faults f o)
err_faults (Ok x) e o h k = tt
err_faults (Err f) e o h k = let P : MergeFault → Type 0 = λ g. Faults g o in subst P (sym h) k
