-- Two sides that are met, by the cases of the code.
use Rattle.std.proofs.Common.{◌≡◌, ℕ, List, [], ◌++◌, Bool, true, false, ◌||◌, Some, None, Box, Global, rules, sym, ap, ◌∙◌, append-nil, subst}
use Rattle.std.specs.Prelude.{Option, option_map, Result, Ok, Err, if◌then◌else◌}
use Rattle.schema_defs.specs.Schema as defs
use Rattle.schema_defs.specs.Schema.{Document, boolean}
use Rattle.schema_types.specs.View.{schema_view, object_view}
use Rattle.schema_types.specs.declared.schema.Schema.{Schema, Object, the_lemmas}
use Rattle.schema_types.specs.declared.schema.SchemaObject.{SchemaObject}
use Rattle.merge_defs.specs.Outcome.{Note, Outcome, never, answer, noted, mapped}
use Rattle.merge_defs.specs.Members.{lost_sizes}
use Rattle.merge_defs.specs.Merge.{reference_to}
use Rattle.merge_walks.specs.Carried.{Walk}
use Rattle.merge_walks.specs.Made.{settled}
use Rattle.merge_steps.specs.declared.stop.Stop.{Stop}
use Rattle.merge_steps.specs.declared.stop.Stop.TheVariants.{Never}
use Rattle.merge_steps.specs.Ends.{Goes}
use Rattle.merge_sides.specs.declared.met.Met.{Met}
use Rattle.merge_sides.specs.declared.met.Met.TheVariants.{Told}
use Rattle.merge_sides.specs.declared.met.Referred.{Referred}
use Rattle.merge_sides.specs.Met.{met_outcome, referred_view}
use Rattle.merge_sides.specs.Referring.{reference_in, referred_in, refer_alike, drops_beside, target_outcome, first_outcome, second_outcome, other_outcome, objects_outcome, referring_outcome, sides_outcome}
use Rattle.merge_sides.proofs.Referrals.{referring_first, referring_other, sides_of_objects, sides_with_true, sides_with_false, as_object_of}

object_schema : (b : Box SchemaObject Global) → schema_view (Object b) ≡ object_view b.value
object_schema b = search (rules, the_lemmas)

pub object_seen_in : (s : Schema) (b : Box SchemaObject Global) → s ≡ Object b → schema_view s ≡ object_view b.value
object_seen_in s b e = ap schema_view e ∙ object_schema b

module _ (d : Document) (join less : defs.Schema → defs.Schema → Outcome defs.Schema) where
  abbrev V : Met → Outcome defs.Schema
  V = met_outcome d join less

  -- another outcome that is the same
  by_same : (old new : List Note) (o p : Outcome defs.Schema) (x : Result Met Stop) → o ≡ p → Goes V old new p x → Goes V old new o x
  by_same old new o p x e g = let P : Outcome defs.Schema → Type 0 = λ q. Goes V old new q x in subst P (sym e) g

  -- ---- references

  pub told_reference : (old new : List Note) (b : Bool) (w : Walk) (q : List ℕ) (s : Schema) → new ≡ old ++ lost_sizes b → schema_view s ≡ settled w (reference_to q)
      → Goes V old new (mapped (settled w) (answer (lost_sizes b) (reference_to q))) (Ok (Told s))
  told_reference old new b w q s e h = record { told = (λ i. answer (sym e i) (sym h i)) ∙ (λ i. answer (sym (append-nil new) i) (schema_view s)) }

  module _ (old new : List Note) (r : List ℕ × Walk) (s t : defs.Schema) (b : Bool) (x : Result Met Stop) where
    abbrev by_alike : Bool → Outcome defs.Schema
    by_alike c =
        if c then mapped (settled r.1) (answer (lost_sizes (drops_beside s || drops_beside t)) (reference_to r.0)) else noted (lost_sizes (drops_beside s)) (target_outcome d join less r t)

    pub first_alike : refer_alike (reference_in s) (reference_in t) ≡ true → b ≡ (drops_beside s || drops_beside t)
        → Goes V old new (mapped (settled r.1) (answer (lost_sizes b) (reference_to r.0))) x → Goes V old new (first_outcome d join less r s t) x
    first_alike h e g = by_same old new _ _ x (ap by_alike h ∙ (λ i. mapped (settled r.1) (answer (lost_sizes (sym e i)) (reference_to r.0)))) g

    pub first_unlike : (y : defs.Schema) → refer_alike (reference_in s) (reference_in t) ≡ false → b ≡ drops_beside s → y ≡ t → Goes V old new (noted (lost_sizes b) (target_outcome d join less r y)) x → Goes V old new (first_outcome d join less r s t) x
    first_unlike y h e k g = by_same old new _ _ x (ap by_alike h ∙ (λ i. noted (lost_sizes (sym e i)) (target_outcome d join less r (sym k i)))) g

    pub second_refers : (y : defs.Schema) → b ≡ drops_beside t → y ≡ s → Goes V old new (noted (lost_sizes b) (target_outcome d join less r y)) x → Goes V old new (second_outcome d join less r s t) x
    second_refers y e k g = by_same old new _ _ x (λ i. noted (lost_sizes (sym e i)) (target_outcome d join less r (sym k i))) g

  module _ (old new : List Note) (a b : SchemaObject) (x : Result Met Stop) where
    pub by_first : (u : Option Referred) (f : Referred) → u ≡ Some f → option_map referred_view u ≡ referred_in (object_view a)
        → Goes V old new (first_outcome d join less (referred_view f) (object_view a) (object_view b)) x → Goes V old new (referring_outcome d join less (object_view a) (object_view b)) x
    by_first u f e h g = by_same old new _ _ x (referring_first d join less (object_view a) (object_view b) (referred_view f) (as_object_of b) (sym h ∙ ap (option_map referred_view) e)) g

    pub by_other : (u : Option Referred) → u ≡ None → option_map referred_view u ≡ referred_in (object_view a)
        → Goes V old new (other_outcome d join less (object_view a) (object_view b) (referred_in (object_view b))) x → Goes V old new (referring_outcome d join less (object_view a) (object_view b)) x
    by_other u e h g = by_same old new _ _ x (referring_other d join less (object_view a) (object_view b) (as_object_of a) (sym h ∙ ap (option_map referred_view) e)) g

    pub of_objects : (y : defs.Schema) → y ≡ object_view b → Goes V old new (referring_outcome d join less (object_view a) (object_view b)) x → Goes V old new (sides_outcome d join less (object_view a) y) x
    of_objects y k g = by_same old new _ _ x (ap (sides_outcome d join less (object_view a)) k ∙ sides_of_objects d join less a b) g

  pub of_object : (old new : List Note) (a : SchemaObject) (s y : defs.Schema) (x : Result Met Stop) → s ≡ object_view a → Goes V old new (sides_outcome d join less (object_view a) y) x → Goes V old new (sides_outcome d join less s y) x
  of_object old new a s y x k g = by_same old new _ _ x (ap (λ z. sides_outcome d join less z y) k) g

  module _ (old new : List Note) (s t : defs.Schema) (u : Option Referred) (x : Result Met Stop) where
    pub by_second : (f : Referred) → u ≡ Some f → option_map referred_view u ≡ referred_in t → Goes V old new (second_outcome d join less (referred_view f) s t) x → Goes V old new (other_outcome d join less s t (referred_in t)) x
    by_second f e h g = by_same old new _ _ x (ap (other_outcome d join less s t) (sym h ∙ ap (option_map referred_view) e)) g

    pub by_none : (s' t' : defs.Schema) → u ≡ None → option_map referred_view u ≡ referred_in t → s' ≡ s → t' ≡ t → Goes V old new (objects_outcome d join less s' t') x → Goes V old new (other_outcome d join less s t (referred_in t)) x
    by_none s' t' e h es et g =
        by_same old new _ _ x (ap (other_outcome d join less s t) (sym h ∙ ap (option_map referred_view) e) ∙ (λ i. objects_outcome d join less (sym es i) (sym et i))) g

  -- ---- booleans

  module _ (ns : List Note) (b : Bool) where
    told_as : (o : Outcome defs.Schema) (s : Schema) → o ≡ answer [] (schema_view s) → Goes V ns ns o (Ok (Told s))
    told_as o s e = record { told = ap (noted ns) e }

    nothing : (o : Outcome defs.Schema) → o ≡ never [] → Goes V ns ns o (Err Never)
    nothing o e = record { told = ap (noted ns) e ∙ ap never (append-nil ns) }

    pub second_true : (a : SchemaObject) (s : Schema) → b ≡ true → schema_view s ≡ object_view a → Goes V ns ns (sides_outcome d join less (object_view a) (boolean b)) (Ok (Told s))
    second_true a s e h = told_as _ s (sides_with_true d join less a b e ∙ ap (answer []) (sym h))

    pub second_false : (a : SchemaObject) → b ≡ false → Goes V ns ns (sides_outcome d join less (object_view a) (boolean b)) (Err Never)
    second_false a e = nothing _ (sides_with_false d join less a b e)

    pub first_true : (s : Schema) → b ≡ true → Goes V ns ns (sides_outcome d join less (boolean b) (schema_view s)) (Ok (Told s))
    first_true s e = told_as _ s (ap (λ c. sides_outcome d join less (boolean c) (schema_view s)) e)

    pub first_false : (s : defs.Schema) → b ≡ false → Goes V ns ns (sides_outcome d join less (boolean b) s) (Err Never)
    first_false s e = nothing _ (ap (λ c. sides_outcome d join less (boolean c) s) e)
