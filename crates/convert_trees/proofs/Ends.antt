-- How a fault is told.
use Rattle.std.specs.Prelude.{Result, Ok, Err, IfErr, IsErrAnd, Contains}
use Rattle.std.proofs.Common.{◌≡◌, ℕ, ◌≤◌, inl, inr, List, [], ◌∷◌, refl, sym, subst, arith}
use Rattle.schema_defs.specs.Faults.{Rises}
use Rattle.schema_defs.specs.Location.{Location}
use Rattle.schema_defs.specs.Schema.{Schema}
use Rattle.convert_defs.specs.Row.{Finding, Cause}
use Rattle.schema_tree.specs.Fault.{FaultD, memory}
use Rattle.convert_trees.specs.Told as told
use Rattle.convert_trees.specs.Told.{NoAnswer, RefusesBy, told_cause}

pub want : (ls : List Location) (old new : ℕ) (f : FaultD) → f ≡ memory → NoAnswer ls old new f
want ls old new f e = told.no_memory e

-- the first of several places
pub first_place : (l m : Location) (ls : List Location) → m ≡ l → Contains (l ∷ ls) m
first_place l m ls e = (0, omega arith, sym e)

-- among more places
pub none_among : (ls ms : List Location) (old new : ℕ) (f : FaultD) → ((m : Location) → Contains ls m → Contains ms m) → NoAnswer ls old new f → NoAnswer ms old new f
none_among ls ms old new f h (told.no_memory e) = told.no_memory e
none_among ls ms old new f h (told.failed m c e k) = told.failed m (h m c) e k

module _ (l : Location) (s : Schema) (fd : Finding) (old new : ℕ) where
  pub no_answer_by : (cs : List Cause) (f : FaultD) → NoAnswer (l ∷ []) old new f → RefusesBy l s fd old new cs f
  no_answer_by cs f h = told.unanswered h

  pub want_by : (cs : List Cause) (f : FaultD) → f ≡ memory → RefusesBy l s fd old new cs f
  want_by cs f e = told.unanswered (told.no_memory e)

  pub told_by : (c : Cause) (more : List Cause) (f : FaultD) → f ≡ told_cause l s fd c → RefusesBy l s fd old new (c ∷ more) f
  told_by c more f e = told.by_cause c more refl e

-- the exit of a `?`
pub if_err : {T E : Type 0} → (r : Result T E) (f : E) (P : E → Type 0) → IsErrAnd r (λ e. e ≡ f) → P f → IfErr r P
if_err (Ok x) f P e h = absurd e
if_err (Err g) f P e h = subst P (sym e) h

-- ---- from an earlier count

rises_from : (a b c : ℕ) → a ≤ b → Rises b c → Rises a c
rises_from a b c h (inl k) = inl (omega (arith, h, k))
rises_from a b c h (inr k) = inr k

pub none_from : (ls : List Location) (a b c : ℕ) (f : FaultD) → a ≤ b → NoAnswer ls b c f → NoAnswer ls a c f
none_from ls a b c f h (told.no_memory e) = told.no_memory e
none_from ls a b c f h (told.failed m i e k) = told.failed m i e (rises_from a b c h k)
