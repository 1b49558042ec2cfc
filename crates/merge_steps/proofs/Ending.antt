-- Steps after one another that go on or stop, as the program answers them.
use Rattle.std.proofs.Common.{◌≡◌, List, [], ◌++◌, Some, None, refl, sym, ap, ◌∙◌, subst, append-nil}
use Rattle.std.specs.Prelude.{Option, option_map, Result, Ok, Err, IsErrAnd}
use Rattle.std.specs.Option.{IfSome}
use Rattle.merge_defs.specs.Outcome.{Note, Outcome, fault, never, answer, noted, and_then, mapped}
use Rattle.merge_parts.specs.declared.fault.MergeFault.{MergeFault}
use Rattle.merge_parts.specs.declared.fault.MergeFault.TheVariants.{Memory}
use Rattle.merge_parts.specs.View.{fault_view}
use Rattle.merge_parts.specs.Steps.{Steps}
use Rattle.merge_steps.specs.declared.stop.Stop.{Stop}
use Rattle.merge_steps.specs.declared.stop.Stop.TheVariants.{Never, Fault}
use Rattle.merge_steps.specs.Ends.{Leads, Ends, Goes, stopped, answered_of, or_never_of}
use Rattle.merge_steps.proofs.Leading.{answered_leads, noted_after, noted_mapped, led}

-- ---- the ends

pub ends_answer : {X A : Type 0} {v : X → A} {ns : List Note} (x : X) → Ends v ns ns (answer [] (v x)) (Ok x)
ends_answer {X} {A} {v} {ns} x = record { told = ap (λ ms. answer ms (v x)) (append-nil ns) }

-- the answer is seen as something equal
pub ends_as : {X A : Type 0} {v : X → A} {ns : List Note} {a : A} (x : X) → v x ≡ a → Ends v ns ns (answer [] a) (Ok x)
ends_as {X} {A} {v} {ns} {a} x e = record { told = ap (λ ms. answer ms a) (append-nil ns) ∙ ap (answer ns) (sym e) }

pub ends_never : {X A : Type 0} {v : X → A} {ns : List Note} → Ends v ns ns (never []) (Err Never)
ends_never {X} {A} {v} {ns} = record { told = ap never (append-nil ns) }

pub ends_noted : {X A : Type 0} {v : X → A} {before after : List Note} (ms : List Note) → after ≡ before ++ ms → Ends v before after (never ms) (Err Never)
ends_noted ms e = record { told = ap never (sym e) }

pub ends_fault : {X A : Type 0} {v : X → A} {before after : List Note} (f : MergeFault) (o : Outcome A) → IfSome (fault_view f) (λ g. o ≡ fault g) → Ends v before after o (Err (Fault f))
ends_fault {X} {A} {v} {before} {after} f o h = record { told = lifted (fault_view f) h }
  where
    lifted : (m : Option _) → IfSome m (λ g. o ≡ fault g) → IfSome (option_map fault m) (λ p. noted before o ≡ p)
    lifted None k = tt
    lifted (Some g) k = ap (noted before) k

-- the error of a `?` that is handed on as it is, and one for want of memory
pub same_error : {X : Type 0} (P : Result X Stop → Type 0) (r : Result X Stop) (e : Stop) → IsErrAnd r (λ f. f ≡ e) → P (Err e) → P r
same_error P (Ok x) e h p = absurd h
same_error P (Err f) e h p = subst (λ g. P (Err g)) (sym h) p

pub memory : {X A : Type 0} {v : X → A} {before after : List Note} {o : Outcome A} (r : Result X Stop) → IsErrAnd r (λ f. f ≡ Fault Memory) → Ends v before after o r
memory {X} {A} {v} {before} {after} {o} r h = same_error (λ q. Ends v before after o q) r (Fault Memory) h (record { told = tt })

pub memory_goes : {X A : Type 0} {v : X → Outcome A} {before after : List Note} {o : Outcome A} (r : Result X Stop) → IsErrAnd r (λ f. f ≡ Fault Memory) → Goes v before after o r
memory_goes {X} {A} {v} {before} {after} {o} r h = same_error (λ q. Goes v before after o q) r (Fault Memory) h (record { told = tt })

-- ---- one step after another

pub on_leads : {X A B : Type 0} {v : X → A} {before mid : List Note} {o : Outcome A} (k : A → Outcome B) (x : X) → Ends v before mid o (Ok x) → Leads before mid (and_then o k) (k (v x))
on_leads {X} {A} {B} {v} {before} {mid} {o} k x s = answered_leads o k (v x) s.told

pub on : {X Y A B : Type 0} {v : X → A} {w : Y → B} {before mid after : List Note} {o : Outcome A} {r : Result Y Stop} (k : A → Outcome B) (x : X)
    → Ends v before mid o (Ok x) → Ends w mid after (k (v x)) r → Ends w before after (and_then o k) r
on k x s t = led (on_leads k x s) t

stops_at : {A B : Type 0} (before after : List Note) (o : Outcome A) (F : Outcome A → Outcome B) → ((p : Outcome A) → noted before (F p) ≡ F (noted before p)) → ((ns : List Note) → F (never ns) ≡ never ns) → ((f : _) → F (fault f) ≡ fault f)
    → (e : Stop) → IfSome (stopped after e) (λ p. noted before o ≡ p) → IfSome (stopped after e) (λ p. noted before (F o) ≡ p)
stops_at before after o F moves nothing strict Never h = moves o ∙ ap F h ∙ nothing after
stops_at {A} {B} before after o F moves nothing strict (Fault f) h = lifted (fault_view f) h
  where
    lifted : (m : Option _) → IfSome (option_map fault m) (λ p. noted before o ≡ p) → IfSome (option_map fault m) (λ p. noted before (F o) ≡ p)
    lifted None k = tt
    lifted (Some g) k = moves o ∙ ap F k ∙ strict g

pub off : {X Y A B : Type 0} {v : X → A} {w : Y → B} {before after : List Note} {o : Outcome A} (k : A → Outcome B) (e : Stop)
    → Ends v before after o (Err e) → Ends w before after (and_then o k) (Err e)
off {X} {Y} {A} {B} {v} {w} {before} {after} {o} k e s =
    record { told = stops_at before after o (λ p. and_then p k) (λ p. sym (noted_after before p k)) (λ ns. refl) (λ f. refl) e s.told }

pub off_goes : {X Y A B : Type 0} {v : X → A} {w : Y → Outcome B} {before after : List Note} {o : Outcome A} (k : A → Outcome B) (e : Stop)
    → Ends v before after o (Err e) → Goes w before after (and_then o k) (Err e)
off_goes {X} {Y} {A} {B} {v} {w} {before} {after} {o} k e s =
    record { told = stops_at before after o (λ p. and_then p k) (λ p. sym (noted_after before p k)) (λ ns. refl) (λ f. refl) e s.told }

pub maps : {X Y A B : Type 0} {v : X → A} {w : Y → B} {before after : List Note} {o : Outcome A} (f : A → B) (x : X) (y : Y)
    → Ends v before after o (Ok x) → w y ≡ f (v x) → Ends w before after (mapped f o) (Ok y)
maps {X} {Y} {A} {B} {v} {w} {before} {after} {o} f x y s e =
    record { told = sym (noted_mapped before o f) ∙ ap (mapped f) s.told ∙ ap (answer after) (sym e) }

pub maps_off : {X Y A B : Type 0} {v : X → A} {w : Y → B} {before after : List Note} {o : Outcome A} (f : A → B) (e : Stop)
    → Ends v before after o (Err e) → Ends w before after (mapped f o) (Err e)
maps_off {X} {Y} {A} {B} {v} {w} {before} {after} {o} f e s =
    record { told = stops_at before after o (mapped f) (λ p. sym (noted_mapped before p f)) (λ ns. refl) (λ g. refl) e s.told }

-- ---- steps of the floors below

pub from_steps : {X A : Type 0} {v : X → A} {before after : List Note} {o : Outcome A} (x : X) → Steps before after o (Some (v x)) → Ends v before after o (Ok x)
from_steps x s = record { told = s.told }

pub from_never : {X A : Type 0} {v : X → A} {before after : List Note} {o : Outcome A} → Steps before after o None → Ends v before after o (Err Never)
from_never s = record { told = s.told }

pub answered_ends : {X A : Type 0} {v : X → A} {before after : List Note} {o : Outcome A} (f : Option X) (r : Result X Stop) → r ≡ answered_of f → Steps before after o (option_map v f) → Ends v before after o r
answered_ends {X} {A} {v} {before} {after} {o} (Some x) r e s = subst (λ q. Ends v before after o q) (sym e) (from_steps x s)
answered_ends {X} {A} {v} {before} {after} {o} None r e s = subst (λ q. Ends v before after o q) (sym e) (from_never s)

-- never as nothing
pub was_some : {X A : Type 0} {v : X → A} {before after : List Note} {o : Outcome A} (r : Result X Stop) (x : X) → Ok (Some x) ≡ or_never_of r → Ends v before after o r → Ends v before after o (Ok x)
was_some {X} {A} {v} {before} {after} {o} (Ok y) x e s = let same : y ≡ x = cc in subst (λ z. Ends v before after o (Ok z)) same s
was_some (Err Never) x e s = cc
was_some (Err (Fault f)) x e s = cc

pub was_none : {X A : Type 0} {v : X → A} {before after : List Note} {o : Outcome A} (r : Result X Stop) → Ok None ≡ or_never_of r → Ends v before after o r → Ends v before after o (Err Never)
was_none (Ok y) e s = cc
was_none (Err Never) e s = s
was_none (Err (Fault f)) e s = cc

pub was_fault : {X A : Type 0} {v : X → A} {before after : List Note} {o : Outcome A} (r : Result X Stop) (e : Stop) → Err e ≡ or_never_of r → Ends v before after o r → Ends v before after o (Err e)
was_fault (Ok y) e h s = cc
was_fault (Err Never) e h s = cc
was_fault {X} {A} {v} {before} {after} {o} (Err (Fault f)) e h s = let same : Fault f ≡ e = cc in subst (λ g. Ends v before after o (Err g)) same s
