-- Steps of merges, one after another.
use Rattle.std.proofs.Common.{◌≡◌, List, [], true≢false, append-nil, sym, ap, ◌∙◌, subst}
use Rattle.std.specs.Prelude.{Option, Some, None, option_map, Result, Ok, Err, IsErrAnd}
use Rattle.std.specs.Option.{IfSome}
use Rattle.schema_defs.specs.Schema.{Schema}
use Rattle.schema_types.specs.declared.schema.Schema as tree
use Rattle.schema_types.specs.View.{schema_view}
use Rattle.merge_defs.specs.Outcome as defs
use Rattle.merge_defs.specs.Outcome.{Note, Outcome, fault, never, answer, noted, and_then, mapped}
use Rattle.merge_parts.specs.View.{fault_view}
use Rattle.merge_parts.specs.Steps.{given}
use Rattle.merge_steps.specs.declared.stop.Stop.{Stop}
use Rattle.merge_steps.specs.declared.stop.Stop.TheVariants.{Never, Fault}
use Rattle.merge_steps.specs.Ends.{Ends, Goes, Leads, or_never_of}
use Rattle.merge_steps.proofs.Leading.{led, mapped_leads}
use Rattle.merge_steps.proofs.Ending.{ends_fault, same_error, on_leads, off, maps_off}
use Rattle.merge_sides.proofs.Going.{goes_leads}
use Rattle.merge_cycle.specs.Finds.{Finds}

-- ---- what is left

-- a step that answers leads to its answer
pub ends_leads : {X A : Type 0} {v : X → A} {before mid : List Note} {o : Outcome A} (x : X) → Ends v before mid o (Ok x) → Leads before mid o (answer [] (v x))
ends_leads {X} {A} {v} {before} {mid} {o} x s = record { told = s.told ∙ ap (λ ms. answer ms (v x)) (sym (append-nil mid)) }

pub goes_off : {X Y A : Type 0} {v : X → Outcome A} {w : Y → A} {before after : List Note} {o : Outcome A} (e : Stop) → Goes v before after o (Err e) → Ends w before after o (Err e)
goes_off e g = record { told = g.told }

-- what is made of an outcome, where notes before stay before
pub strict_leads : {A B : Type 0} {before mid : List Note} {o left : Outcome A} (F : Outcome A → Outcome B) → ((ns : List Note) (p : Outcome A) → F (noted ns p) ≡ noted ns (F p)) → Leads before mid o left → Leads before mid (F o) (F left)
strict_leads {A} {B} {before} {mid} {o} {left} F s a = record { told = sym (s before o) ∙ ap F a.told ∙ s mid left }

-- ---- the error of a step, handed on

pub handed : {Y A : Type 0} {w : Y → A} {before after : List Note} {o : Outcome A} (e : Stop) (r : Result Y Stop) → IsErrAnd r (λ f. f ≡ e) → Ends w before after o (Err e) → Ends w before after o r
handed {Y} {A} {w} {before} {after} {o} e r h s = same_error (λ q. Ends w before after o q) r e h s

pub handed_goes : {X Y A : Type 0} {v : X → Outcome A} {w : Y → A} {before after : List Note} {o : Outcome A} (e : Stop) (r : Result Y Stop) → IsErrAnd r (λ f. f ≡ e) → Goes v before after o (Err e) → Ends w before after o r
handed_goes {X} {Y} {A} {v} {w} {before} {after} {o} e r h s = same_error (λ q. Ends w before after o q) r e h (goes_off e s)

-- after a step that goes on
pub goes_then : {X Y A : Type 0} {v : X → Outcome A} {w : Y → A} {before mid after : List Note} {o : Outcome A} {r : Result Y Stop} (x : X) → Goes v before mid o (Ok x) → Ends w mid after (v x) r → Ends w before after o r
goes_then x g s = led (goes_leads x g) s

-- ---- never as nothing

-- a fault has no notes before it
pub bare_fault : {A : Type 0} (ns : List Note) (o : Outcome A) (f : defs.Fault) → noted ns o ≡ fault f → o ≡ fault f
bare_fault ns (fault g) f e = e
bare_fault ns (never ms) f e = cc
bare_fault ns (answer ms a) f e = cc

pub finds_by : {before after : List Note} {o : Outcome Schema} (r : Result tree.Schema Stop) (q : Result (Option tree.Schema) Stop) → q ≡ or_never_of r → Ends schema_view before after o r → Finds before after o q
finds_by {before} {after} {o} (Ok s) q e h = subst (λ p. Finds before after o p) (sym e) (record { told = h.told })
finds_by {before} {after} {o} (Err Never) q e h = subst (λ p. Finds before after o p) (sym e) (record { told = h.told })
finds_by {before} {after} {o} (Err (Fault f)) q e h = subst (λ p. Finds before after o p) (sym e) (record { told = bare (fault_view f) h.told })
  where
    bare : (m : Option defs.Fault) → IfSome (option_map fault m) (λ p. noted before o ≡ p) → IfSome m (λ g. o ≡ fault g)
    bare None k = tt
    bare (Some g) k = bare_fault before o g k

-- what was found is something equal
pub found_as : {before after : List Note} {o : Outcome Schema} {x y : Option tree.Schema} → Finds before after o (Ok x) → x ≡ y → Finds before after o (Ok y)
found_as {before} {after} {o} h e = subst (λ z. Finds before after o (Ok z)) e h

given_again : {A : Type 0} (ns : List Note) (found : Option A) → given ns found ≡ noted ns (given [] found)
given_again ns None = ap never (sym (append-nil ns))
given_again ns (Some a) = ap (λ ms. answer ms a) (sym (append-nil ns))

pub found_leads : {before mid : List Note} {o : Outcome Schema} (found : Option tree.Schema) → Finds before mid o (Ok found) → Leads before mid o (given [] (option_map schema_view found))
found_leads {before} {mid} {o} found h = record { told = h.told ∙ given_again mid (option_map schema_view found) }

-- what is made of what was found, whichever notes it wrote where it is a fault
pub found_on : {Y B : Type 0} {w : Y → B} {before mid after : List Note} {o : Outcome Schema} {r : Result Y Stop} (F : Outcome Schema → Outcome B) → ((ns : List Note) (p : Outcome Schema) → F (noted ns p) ≡ noted ns (F p))
    → (found : Option tree.Schema) → Finds before mid o (Ok found) → Ends w mid after (F (given [] (option_map schema_view found))) r → Ends w before after (F o) r
found_on F s found h t = led (strict_leads F s (found_leads found h)) t

pub found_off : {Y B : Type 0} {w : Y → B} {before after old new : List Note} {o : Outcome Schema} (F : Outcome Schema → Outcome B) → ((f : defs.Fault) → F (fault f) ≡ fault f)
    → (e : Stop) → Finds old new o (Err e) → Ends w before after (F o) (Err e)
found_off F strict Never h = absurd (true≢false (sym h.told))
found_off {Y} {B} {w} {before} {after} {old} {new} {o} F strict (Fault f) h = ends_fault f (F o) (lifted (fault_view f) h.told)
  where
    lifted : (m : Option defs.Fault) → IfSome m (λ g. o ≡ fault g) → IfSome m (λ g. F o ≡ fault g)
    lifted None k = tt
    lifted (Some g) k = ap F k ∙ strict g

-- ---- a step inside of what is made of it

module _ {A B : Type 0} (F : A → B) where
  pub on_mapped : {X C : Type 0} {v : X → C} {before mid : List Note} {o : Outcome C} (k : C → Outcome A) (x : X) → Ends v before mid o (Ok x) → Leads before mid (mapped F (and_then o k)) (mapped F (k (v x)))
  on_mapped k x s = mapped_leads F (on_leads k x s)

  pub off_mapped : {X Y C : Type 0} {v : X → C} {w : Y → B} {before after : List Note} {o : Outcome C} (k : C → Outcome A) (e : Stop) → Ends v before after o (Err e) → Ends w before after (mapped F (and_then o k)) (Err e)
  off_mapped {X} {Y} {C} {v} {w} {before} {after} {o} k e s =
      let inner : Ends (λ (a : A). a) before after (and_then o k) (Err e) = off k e s in
      maps_off F e inner
