-- What is left of an outcome, step by step.
use Rattle.std.proofs.Common.{◌≡◌, List, [], ◌++◌, Some, None, refl, sym, ap, ◌∙◌, append_assoc}
use Rattle.std.specs.Prelude.{Option, Result}
use Rattle.std.specs.Option.{IfSome}
use Rattle.merge_defs.specs.Outcome.{Note, Outcome, fault, never, answer, noted, and_then, mapped, or_else}
use Rattle.merge_steps.specs.declared.stop.Stop.{Stop}
use Rattle.merge_steps.specs.Ends.{Leads, Ends, Goes, reached}

pub noted_twice : {A : Type 0} → (ns ms : List Note) (o : Outcome A) → noted ns (noted ms o) ≡ noted (ns ++ ms) o
noted_twice ns ms (fault f) = refl
noted_twice ns ms (never ks) = ap never (sym (append_assoc ns ms ks))
noted_twice ns ms (answer ks a) = ap (λ ls. answer ls a) (sym (append_assoc ns ms ks))

pub noted_nothing : {A : Type 0} → (o : Outcome A) → noted [] o ≡ o
noted_nothing (fault f) = refl
noted_nothing (never ns) = refl
noted_nothing (answer ns a) = refl

pub noted_after : {A B : Type 0} → (ns : List Note) (o : Outcome A) (k : A → Outcome B) → and_then (noted ns o) k ≡ noted ns (and_then o k)
noted_after ns (fault f) k = refl
noted_after ns (never ms) k = refl
noted_after ns (answer ms a) k = sym (noted_twice ns ms (k a))

pub noted_mapped : {A B : Type 0} → (ns : List Note) (o : Outcome A) (f : A → B) → mapped f (noted ns o) ≡ noted ns (mapped f o)
noted_mapped ns (fault e) f = refl
noted_mapped ns (never ms) f = refl
noted_mapped ns (answer ms a) f = refl

pub noted_else : {A : Type 0} → (ns : List Note) (o : Outcome A) (d : A) → or_else d (noted ns o) ≡ noted ns (or_else d o)
noted_else ns (fault e) d = refl
noted_else ns (never ms) d = refl
noted_else ns (answer ms a) d = refl

-- ---- what is left

pub stays : {A : Type 0} (ns : List Note) (o : Outcome A) → Leads ns ns o o
stays ns o = record { told = refl }

pub leads_by : {A : Type 0} {ns : List Note} {o left : Outcome A} → o ≡ left → Leads ns ns o left
leads_by {A} {ns} e = record { told = ap (noted ns) e }

pub leads_on : {A : Type 0} {before mid after : List Note} {o left last : Outcome A} → Leads before mid o left → Leads mid after left last → Leads before after o last
leads_on a b = record { told = a.told ∙ b.told }

-- the left outcome has another form
pub leads_as : {A : Type 0} {before after : List Note} {o left last : Outcome A} → Leads before after o left → left ≡ last → Leads before after o last
leads_as {A} {before} {after} a e = record { told = a.told ∙ ap (noted after) e }

-- notes that are written are no longer left
pub writes : {A : Type 0} {before after : List Note} (ns : List Note) (left : Outcome A) → after ≡ before ++ ns → Leads before after (noted ns left) left
writes {A} {before} ns left e = record { told = noted_twice before ns left ∙ ap (λ ms. noted ms left) (sym e) }

-- a step that answers leads to what comes after it
pub answered_leads : {A B : Type 0} {before mid : List Note} (o : Outcome A) (k : A → Outcome B) (a : A) → noted before o ≡ answer mid a → Leads before mid (and_then o k) (k a)
answered_leads {A} {B} {before} {mid} o k a e =
    record { told = sym (noted_after before o k) ∙ ap (λ p. and_then p k) e }

pub mapped_leads : {A B : Type 0} {before mid : List Note} {o left : Outcome A} (f : A → B) → Leads before mid o left → Leads before mid (mapped f o) (mapped f left)
mapped_leads {A} {B} {before} {mid} {o} {left} f a = record { told = sym (noted_mapped before o f) ∙ ap (mapped f) a.told ∙ noted_mapped mid left f }

pub then_leads : {A B : Type 0} {before mid : List Note} {o left : Outcome A} (k : A → Outcome B) → Leads before mid o left → Leads before mid (and_then o k) (and_then left k)
then_leads {A} {B} {before} {mid} {o} {left} k a = record { told = sym (noted_after before o k) ∙ ap (λ p. and_then p k) a.told ∙ noted_after mid left k }

-- ---- one step after another, as equations

pub mapped_after : {A B C : Type 0} → (f : B → C) (o : Outcome A) (k : A → Outcome B) → mapped f (and_then o k) ≡ and_then o (λ a. mapped f (k a))
mapped_after f (fault e) k = refl
mapped_after f (never ns) k = refl
mapped_after f (answer ns a) k = noted_mapped ns (k a) f

pub after_mapped : {A B C : Type 0} → (f : A → B) (o : Outcome A) (k : B → Outcome C) → and_then (mapped f o) k ≡ and_then o (λ a. k (f a))
after_mapped f (fault e) k = refl
after_mapped f (never ns) k = refl
after_mapped f (answer ns a) k = refl

pub after_after : {A B C : Type 0} → (o : Outcome A) (k : A → Outcome B) (h : B → Outcome C) → and_then (and_then o k) h ≡ and_then o (λ a. and_then (k a) h)
after_after (fault e) k h = refl
after_after (never ns) k h = refl
after_after (answer ns a) k h = noted_after ns (k a) h

pub mapped_twice : {A B C : Type 0} → (f : B → C) (g : A → B) (o : Outcome A) → mapped f (mapped g o) ≡ mapped (λ a. f (g a)) o
mapped_twice f g (fault e) = refl
mapped_twice f g (never ns) = refl
mapped_twice f g (answer ns a) = refl

-- ---- how a step ends

prepend : {A : Type 0} → (m : Option (Outcome A)) (p q : Outcome A) → p ≡ q → IfSome m (λ r. q ≡ r) → IfSome m (λ r. p ≡ r)
prepend None p q e h = tt
prepend (Some r) p q e h = e ∙ h

pub led : {X A : Type 0} {v : X → A} {before mid after : List Note} {o left : Outcome A} {r : Result X Stop} → Leads before mid o left → Ends v mid after left r → Ends v before after o r
led {X} {A} {v} {before} {mid} {after} {o} {left} {r} a b =
    record { told = prepend (reached (λ ns x. answer ns (v x)) after r) (noted before o) (noted mid left) a.told b.told }

pub led_goes : {X A : Type 0} {v : X → Outcome A} {before mid after : List Note} {o left : Outcome A} {r : Result X Stop} → Leads before mid o left → Goes v mid after left r → Goes v before after o r
led_goes {X} {A} {v} {before} {mid} {after} {o} {left} {r} a b =
    record { told = prepend (reached (λ ns x. noted ns (v x)) after r) (noted before o) (noted mid left) a.told b.told }
