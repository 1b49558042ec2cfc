-- Faults of steps after one another.
use Rattle.std.proofs.Common.{◌≡◌, List, [], Some, None, refl, sym, ap, ◌∙◌, subst}
use Rattle.std.specs.Prelude.{Option}
use Rattle.std.specs.Option.{IfSome}
use Rattle.merge_defs.specs.Outcome.{Note, Fault, Outcome, fault, never, answer, noted, and_then, mapped, or_else}
use Rattle.merge_defs.specs.Less.{turned_outcome}
use Rattle.merge_parts.specs.declared.fault.MergeFault.{MergeFault}
use Rattle.merge_parts.specs.declared.fault.MergeFault.TheVariants.{Memory}
use Rattle.merge_parts.specs.View.{fault_view}
use Rattle.merge_parts.specs.Steps.{Steps, Quietly, Faults}
use Rattle.merge_parts.proofs.Steps.{quiet}

-- nothing is said where memory ran out
pub memory_faults : {A : Type 0} → (e : MergeFault) (o : Outcome A) → e ≡ Memory → Faults e o
memory_faults e o h = record { told = let P : MergeFault → Type 0 = λ d. IfSome (fault_view d) (λ f. o ≡ fault f) in subst P (sym h) tt }

-- a fault stays a fault
strictly : {A B : Type 0} → (F : Outcome A → Outcome B) → ((f : Fault) → F (fault f) ≡ fault f) → (m : Option Fault) (o : Outcome A) → IfSome m (λ f. o ≡ fault f) → IfSome m (λ f. F o ≡ fault f)
strictly F s None o h = tt
strictly F s (Some f) o h = ap F h ∙ s f

pub first_faults : {A B : Type 0} → (e : MergeFault) (o : Outcome A) (k : A → Outcome B) → Faults e o → Faults e (and_then o k)
first_faults e o k h = record { told = strictly (λ p. and_then p k) (λ f. refl) (fault_view e) o h.told }

pub mapped_faults : {A B : Type 0} → (f : A → B) (e : MergeFault) (o : Outcome A) → Faults e o → Faults e (mapped f o)
mapped_faults f e o h = record { told = strictly (mapped f) (λ g. refl) (fault_view e) o h.told }

pub noted_faults : {A : Type 0} → (ns : List Note) (e : MergeFault) (o : Outcome A) → Faults e o → Faults e (noted ns o)
noted_faults ns e o h = record { told = strictly (noted ns) (λ f. refl) (fault_view e) o h.told }

pub or_else_faults : {A : Type 0} → (d : A) (e : MergeFault) (o : Outcome A) → Faults e o → Faults e (or_else d o)
or_else_faults d e o h = record { told = strictly (or_else d) (λ f. refl) (fault_view e) o h.told }

pub turned_faults : {A : Type 0} → (e : MergeFault) (o : Outcome A) → Faults e o → Faults e (turned_outcome o)
turned_faults e o h = record { told = strictly turned_outcome (λ f. refl) (fault_view e) o h.told }

-- what follows a step that answers
after_answer : {A B : Type 0} → (before mid : List Note) (o : Outcome A) (k : A → Outcome B) (a : A) (f : Fault) → noted before o ≡ answer mid a → k a ≡ fault f → and_then o k ≡ fault f
after_answer before mid (fault g) k a f e h = cc
after_answer before mid (never ns) k a f e h = cc
after_answer before mid (answer ns b) k a f e h = let same : k b ≡ fault f = cc in ap (noted ns) same

then_by : {A B : Type 0} → (before mid : List Note) (o : Outcome A) (k : A → Outcome B) (a : A) (m : Option Fault) → noted before o ≡ answer mid a → IfSome m (λ f. k a ≡ fault f) → IfSome m (λ f. and_then o k ≡ fault f)
then_by before mid o k a None e h = tt
then_by before mid o k a (Some f) e h = after_answer before mid o k a f e h

pub then_faults : {A B : Type 0} → (before mid : List Note) (e : MergeFault) (o : Outcome A) (k : A → Outcome B) (a : A) → Steps before mid o (Some a) → Faults e (k a) → Faults e (and_then o k)
then_faults before mid e o k a s h = record { told = then_by before mid o k a (fault_view e) s.told h.told }

pub quietly_then_faults : {A B : Type 0} → (e : MergeFault) (o : Outcome A) (k : A → Outcome B) (a : A) → Quietly o (Some a) → Faults e (k a) → Faults e (and_then o k)
quietly_then_faults e o k a q h = then_faults [] [] e o k a (quiet [] o (Some a) q) h
