-- Names that are merged one after another.
use Rattle.std.proofs.Common.{◌≡◌, ℕ, List, ◌++◌, Bool, true, false, ◌&&◌, refl, sym, ap, ◌∙◌}
use Rattle.std.specs.Prelude.{if◌then◌else◌}
use Rattle.schema_defs.specs.Schema.{Schema, Properties, no_properties, property}
use Rattle.merge_defs.specs.Outcome.{Note, Outcome, fault, never, answer, noted, and_then, mapped, never_unless, of_clash}
use Rattle.merge_defs.specs.Objects.{is_false, put_property}
use Rattle.merge_steps.specs.Ends.{Leads}
use Rattle.merge_steps.proofs.Leading.{noted_after, noted_mapped, leads_by, leads_on, writes}
use Rattle.merge_members.specs.Plans.{and_last, before, gathered_outcome}

before_last : (ps : Properties) (n : List ℕ) (s : Schema) (qs : Properties) → before (and_last ps n s) qs ≡ before ps (property n s qs)
before_last no_properties n s qs = refl
before_last (property m t ps) n s qs = ap (property m t) (before_last ps n s qs)

pub before_none : (ps : Properties) → before ps no_properties ≡ ps
before_none no_properties = refl
before_none (property m t ps) = ap (property m t) (before_none ps)

-- what nothing comes of stays so
abbrev clash : {X : Type 0} → Bool → X → Outcome Properties
clash b x = never_unless b of_clash

still_never : (b : Bool) (f : Properties → Properties) (o : Outcome Properties) → mapped f (and_then o (clash b)) ≡ and_then o (clash b)
still_never b f (fault e) = refl
still_never b f (never ns) = refl
still_never b f (answer ns a) = refl

twice_never : (b : Bool) (o : Outcome Properties) → and_then {A = Properties} {B = Properties} (and_then o (clash b)) (clash b) ≡ and_then o (clash b)
twice_never b (fault e) = refl
twice_never b (never ns) = refl
twice_never b (answer ns a) = refl

after_mapping : (b : Bool) (f : Properties → Properties) (o : Outcome Properties) → and_then (mapped f o) (clash b) ≡ and_then o (clash b)
after_mapping b f (fault e) = refl
after_mapping b f (never ns) = refl
after_mapping b f (answer ns a) = refl

mapping_twice : (f g h : Properties → Properties) → ((ps : Properties) → f (g ps) ≡ h ps) → (o : Outcome Properties) → mapped f (mapped g o) ≡ mapped h o
mapping_twice f g h e (fault d) = refl
mapping_twice f g h e (never ns) = refl
mapping_twice f g h e (answer ns a) = ap (answer ns) (e a)

module _ (b : Bool) (ps : Properties) (n : List ℕ) (s : Schema) (after : Outcome Properties) where
  clashing : (c : Bool) → gathered_outcome b c ps (and_then after (λ qs. never_unless b of_clash)) ≡ gathered_outcome b true ps after
  clashing true = twice_never b after
  clashing false = still_never b (before ps) after

  adding : (c : Bool) → gathered_outcome b c ps (mapped (property n s) after) ≡ gathered_outcome b c (and_last ps n s) after
  adding true = after_mapping b (property n s) after
  adding false = mapping_twice (before ps) (property n s) (before (and_last ps n s)) (λ qs. sym (before_last ps n s qs)) after

  noting : (ns : List Note) (c : Bool) → gathered_outcome b c ps (noted ns after) ≡ noted ns (gathered_outcome b c ps after)
  noting ns true = noted_after ns after (λ qs. never_unless b of_clash)
  noting ns false = noted_mapped ns after (before ps)

  -- a name that is required and refused
  pub clash_leads : (mid : List Note) (c needed closed : Bool) (unsaid : List Note) → (is_false s && needed) ≡ true
      → Leads mid mid (gathered_outcome b c ps (put_property b needed closed unsaid n s after)) (gathered_outcome b true ps after)
  clash_leads mid c needed closed unsaid h = leads_by (ap (λ d. gathered_outcome b c ps (if d then and_then after (λ qs. never_unless b of_clash) else if is_false s && closed then noted unsaid after else mapped (property n s) after)) h ∙ clashing c)

  -- a name that is left out
  pub unsaid_leads : (old new : List Note) (c needed closed : Bool) (unsaid : List Note) → (is_false s && needed) ≡ false → (is_false s && closed) ≡ true → new ≡ old ++ unsaid
      → Leads old new (gathered_outcome b c ps (put_property b needed closed unsaid n s after)) (gathered_outcome b c ps after)
  unsaid_leads old new c needed closed unsaid h k e =
      leads_on (leads_by ((λ i. gathered_outcome b c ps (if h i then and_then after (λ qs. never_unless b of_clash) else if k i then noted unsaid after else mapped (property n s) after)) ∙ noting unsaid c))
      (writes unsaid (gathered_outcome b c ps after) e)

  -- a name with its schema
  put_so : (f c needed closed : Bool) (unsaid : List Note) → is_false s ≡ f → (f && needed) ≡ false → (f && closed) ≡ false
      → gathered_outcome b c ps (put_property b needed closed unsaid n s after) ≡ gathered_outcome b c (and_last ps n s) after
  put_so true c needed closed unsaid e h k = (λ i. gathered_outcome b c ps (if e i && h i then and_then after (λ qs. never_unless b of_clash) else if e i && k i then noted unsaid after else mapped (property n s) after)) ∙ adding c
  put_so false c needed closed unsaid e h k = (λ i. gathered_outcome b c ps (if e i && needed then and_then after (λ qs. never_unless b of_clash) else if e i && closed then noted unsaid after else mapped (property n s) after)) ∙ adding c

  pub put_leads : (mid : List Note) (qs : Properties) (c needed closed : Bool) (unsaid : List Note) → (is_false s && needed) ≡ false → (is_false s && closed) ≡ false → qs ≡ and_last ps n s
      → Leads mid mid (gathered_outcome b c ps (put_property b needed closed unsaid n s after)) (gathered_outcome b c qs after)
  put_leads mid qs c needed closed unsaid h k e = leads_by (put_so (is_false s) c needed closed unsaid refl h k ∙ ap (λ rs. gathered_outcome b c rs after) (sym e))
