-- The rows, by what was asked beforehand, and the steps of two objects.
use Rattle.std.proofs.Common.{◌≡◌, List, [], Bool, true, false, not, Option, option_map, Vec, Global, refl, sym, ap, ◌∙◌, subst}
use Rattle.std.specs.Prelude.{Result, Ok, Err, IsErrAnd}
use Rattle.serde_json.specs.declared.value.Value as json
use Rattle.schema_defs.specs.Schema.{Document, Plain, Schema, boolean, object, Same, Named, no_properties}
use Rattle.schema_types.specs.View.{array_view, lists_of, members_view, named_of, object_view, same_of, subschemas_view}
use Rattle.schema_types.specs.declared.schema.Schema as tree
use Rattle.schema_types.specs.declared.schema.SchemaObject.{SchemaObject, out-SchemaObject}
use Rattle.merge_defs.specs.Outcome.{Note, Outcome, answer, noted, note_if, both_ways, and_then, mapped, of_subtract}
use Rattle.merge_defs.specs.Less.{less_named, less_same, less_values}
use Rattle.merge_defs.specs.Merge.{less_layer}
use Rattle.merge_leaves.specs.View.{values_view}
use Rattle.schema_sameness.specs.Parts.{named_in, same_in}
use Rattle.merge_walked.proofs.Objects.{object_seen, plain_of}
use Rattle.merge_steps.specs.declared.stop.Stop.{Stop}
use Rattle.merge_steps.specs.Ends.{Ends, Goes}
use Rattle.merge_steps.proofs.Ending.{maps}
use Rattle.merge_steps.proofs.Leading.{after_mapped, mapped_twice}
use Rattle.merge_members.specs.declared.plan.Entry.{Entry}
use Rattle.merge_members.specs.Plans.{entries_then, maybe_members}
use Rattle.merge_sides.specs.Met.{listing}
use Rattle.merge_sides.proofs.Going.{off_mapped}
use Rattle.merge_less.specs.declared.taking.Listed.{Listed}
use Rattle.merge_less.specs.Taking.{parts_outcome, putting, with_named, with_properties}
use Rattle.merge_less.specs.Rows.{behind_values, exact_by, exact_in, objects_outcome, refusing, rows, values_left, with_plain}

-- ---- rows

pub rows_of : (d : Document) (join less : Schema → Schema → Outcome Schema) (s t : Schema) → less_layer d join less s t ≡ rows join less (exact_in d s t) s t
rows_of d join less s (boolean true) = refl
rows_of d join less s (boolean false) = refl
rows_of d join less (boolean true) (object q tt' ms os) = refl
rows_of d join less (boolean false) (object q tt' ms os) = refl
rows_of d join less (object p ss ls ns) (object q tt' ms os) =
    let s = object p ss ls ns in
    ap (λ o. refusing ss tt' (noted (note_if (not (exact_in d s (object q tt' ms os))) (both_ways of_subtract)) o)) (sym (after_mapped (with_plain s) (less_values p p.enum_values q.enum_values) (behind_values join less os tt')))

-- ---- objects of the program

pub exact_seen : (d : Document) (s n : Schema) (a b : SchemaObject) → s ≡ object_view a → n ≡ object_view b → exact_by d s n (object_view a) (object_view b) ≡ exact_in d s n
exact_seen d s n a b e h =
    (λ i. exact_by d (e i) (h i) (object_view a) (object_view b))
    ∙ (λ i. exact_by d (object_seen a i) (object_seen b i) (object_seen a i) (object_seen b i))
    ∙ (λ i. exact_in d (sym (object_seen a) i) (sym (object_seen b) i))
    ∙ (λ i. exact_in d (sym e i) (sym h i))

module _ (join less : Schema → Schema → Outcome Schema) (x : Bool) (a b : SchemaObject) where
  rows_seen : objects_outcome join less x (object_view a) (object_view b) ≡ rows join less x (object_view a) (object_view b)
  rows_seen = (λ i. objects_outcome join less x (object_seen a i) (object_seen b i)) ∙ (λ i. rows join less x (sym (object_seen a) i) (sym (object_seen b) i))

  -- the first side is an object
  pub of_object : {X : Type 0} {v : X → Outcome Schema} (old new : List Note) (u : SchemaObject) (s : Schema) (r : Result X Stop) → u ≡ a → s ≡ object_view a
      → Goes v old new (objects_outcome join less x (object_view u) (object_view b)) r → Goes v old new (rows join less x s (object_view b)) r
  of_object {X} {v} old new u s r e h g =
      let P : Outcome Schema → Type 0 = λ o. Goes v old new o r in
      subst P (ap (λ y. objects_outcome join less x (object_view y) (object_view b)) e ∙ rows_seen ∙ ap (λ y. rows join less x y (object_view b)) (sym h)) g

-- the second side is one
pub of_second : {X : Type 0} {v : X → Outcome Schema} (join less : Schema → Schema → Outcome Schema) (x : Bool) (old new : List Note) (s t : Schema) (b u : SchemaObject) (r : Result X Stop) → u ≡ b → t ≡ object_view b
    → Goes v old new (rows join less x s (object_view u)) r → Goes v old new (rows join less x s t) r
of_second {X} {v} join less x old new s t b u r e h g =
    let P : Outcome Schema → Type 0 = λ o. Goes v old new o r in
    subst P (ap (λ y. rows join less x s (object_view y)) e ∙ ap (rows join less x s) (sym h)) g

-- ---- listed values

module _ (a b : SchemaObject) (ns : List Note) where
  abbrev seen : SchemaObject → Schema
  seen o = object (plain_of o) (same_of (option_map subschemas_view (out-SchemaObject o).subschemas)) (lists_of (option_map array_view (out-SchemaObject o).array)) (named_of (option_map members_view (out-SchemaObject o).object))

  -- how a step ends that leaves listed values
  abbrev ValuesEnd : Result (Option (Vec json.Value Global)) Stop → Type 0
  ValuesEnd r =
      (p : Plain) (ms : List Note)
      → Ends (λ vs. record p { enum_values = values_view vs }) ms ms (less_values (record p { enum_values = values_view (out-SchemaObject a).enum_values }) (values_view (out-SchemaObject a).enum_values) (values_view (out-SchemaObject b).enum_values)) r

  of_both : (r : Result SchemaObject Stop) → Ends object_view ns ns (values_left (seen a) (seen b)) r → Ends object_view ns ns (values_left (object_view a) (object_view b)) r
  of_both r k = subst (λ t. t) (λ i. Ends object_view ns ns (values_left (sym (object_seen a) i) (sym (object_seen b) i)) r) k

  pub values_there : (vs : Option (Vec json.Value Global)) (y : SchemaObject) → ValuesEnd (Ok vs) → object_view y ≡ listing (values_view vs) (object_view a) → Ends object_view ns ns (values_left (object_view a) (object_view b)) (Ok y)
  values_there vs y h e = of_both (Ok y) (maps (with_plain (seen a)) vs y (h (plain_of a) ns) (e ∙ ap (listing (values_view vs)) (object_seen a)))

  pub values_stop : (e : Stop) (r : Result SchemaObject Stop) → IsErrAnd r (λ f. f ≡ e) → ValuesEnd (Err e) → Ends object_view ns ns (values_left (object_view a) (object_view b)) r
  values_stop e r h k = of_both r (off_mapped (with_plain (seen a)) e r h (k (plain_of a) ns))

-- ---- what is behind them

module _ (join less : Schema → Schema → Outcome Schema) (a : SchemaObject) where
  -- properties and subschemas of the program
  pub behind_by : (es : List Entry) (any none : List tree.Schema) (all : Option Listed) (os : Named) (ss : Same)
      → mapped (λ ps. putting ps (maybe_members (out-SchemaObject a).object)) (entries_then less true false es (answer [] no_properties)) ≡ less_named less (maybe_members (out-SchemaObject a).object) os
      → ((s : Schema) → parts_outcome join less any none all s ≡ less_same join less ss s)
      → and_then (mapped (with_properties (object_view a)) (entries_then less true false es (answer [] no_properties))) (parts_outcome join less any none all) ≡ behind_values join less os ss (object_view a)
  behind_by es any none all os ss h k =
      let s = object_view a in
      let props = entries_then less true false es (answer [] no_properties) in
      let named : mapped (λ ps. putting ps (named_in s)) props ≡ less_named less (named_in s) os = subst (λ m. mapped (λ ps. putting ps m) props ≡ less_named less m os) (sym (ap named_in (object_seen a))) h in
      ap (λ o. and_then o (parts_outcome join less any none all)) (sym (mapped_twice (with_named s) (λ ps. putting ps (named_in s)) props) ∙ ap (mapped (with_named s)) named)
      ∙ after_mapped (with_named s) (less_named less (named_in s) os) (parts_outcome join less any none all)
      ∙ (λ i. and_then (less_named less (named_in s) os) (λ ns. k (with_named s ns) i))

  pub behind_seen : (b : SchemaObject) → behind_values join less (maybe_members (out-SchemaObject b).object) (same_of (option_map subschemas_view (out-SchemaObject b).subschemas)) (object_view a) ≡ behind_values join less (named_in (object_view b)) (same_in (object_view b)) (object_view a)
  behind_seen b = λ i. behind_values join less (named_in (sym (object_seen b) i)) (same_in (sym (object_seen b) i)) (object_view a)
