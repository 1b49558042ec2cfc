-- Two objects without references: what is refused, the leaves, and what comes behind them.
use Rattle.std.proofs.Common.{◌≡◌, ℕ, List, Option, Bool, refl, sym, ap, ◌∙◌, option_map, subst}
use Rattle.std.specs.Prelude.{Result}
use Rattle.json_value.specs.Value.{null}
use Rattle.schema_defs.specs.declared.InstanceType.TheVariants.{Object, Array, Integer, Text}
use Rattle.schema_defs.specs.Admits.{counts_as_absent}
use Rattle.schema_defs.specs.Schema.{Types, Numbers, Texts, Plain, Schema, Same, Lists, Named, Document}
use Rattle.schema_types.specs.View.{object_view, subschemas_view, array_view, members_view, same_of, lists_of, named_of}
use Rattle.schema_types.specs.declared.schema.SchemaObject.{SchemaObject, out-SchemaObject}
use Rattle.merge_defs.specs.Outcome.{Note, Outcome, fault, never, answer, noted, and_then, mapped, where_both}
use Rattle.merge_defs.specs.Leaves.{is_only, two_types, two_formats, two_numbers, two_texts, values_of}
use Rattle.merge_defs.specs.Arrays.{two_lists_parts}
use Rattle.merge_defs.specs.Objects.{two_named, names_mix, unless_mixed}
use Rattle.merge_defs.specs.Members.{refused, with_same}
use Rattle.merge_defs.specs.Merge.{tidied, two_objects}
use Rattle.schema_sameness.specs.Parts.{plain_in, same_in, lists_in, named_in}
use Rattle.merge_walks.specs.Carried.{Walk}
use Rattle.merge_walks.specs.Made.{on_made, settled}
use Rattle.merge_walked.proofs.Objects.{object_seen}
use Rattle.merge_steps.specs.declared.stop.Stop.{Stop}
use Rattle.merge_steps.specs.Ends.{Goes}
use Rattle.merge_steps.proofs.Leading.{after_after, mapped_after}
use Rattle.merge_sides.specs.Leaves.{LeavesOf, leaves_then}
use Rattle.merge_sides.specs.Met.{body_outcome}
use Rattle.merge_sides.specs.Referring.{objects_outcome, walk_of_two}
use Rattle.merge_sides.specs.Behind.{behind, behind_by, behind_two}
use Rattle.merge_sides.proofs.Refusals.{mapped_refused, mapped_mixed}

pub then_same : {A B : Type 0} (o : Outcome A) (k h : A → Outcome B) → ((a : A) → k a ≡ h a) → and_then o k ≡ and_then o h
then_same (fault f) k h e = refl
then_same (never ns) k h e = refl
then_same (answer ns a) k h e = ap (noted ns) (e a)

-- F goes through what comes first
abbrev Through : {A B : Type 0} → (Outcome A → Outcome B) → Type 0 → Type 0
Through {A} F X = (o : Outcome X) (h : X → Outcome A) → F (and_then o h) ≡ and_then o (λ a. F (h a))

module _ (p q : Plain) where
  -- the leaves, and what is left at each
  abbrev types_of_both : Outcome (Option Types)
  types_of_both = where_both two_types p.types q.types

  abbrev format_of_both : Outcome (Option (List ℕ))
  format_of_both = where_both two_formats p.format q.format

  abbrev numbers_of_both : Option Types → Outcome (Option Numbers)
  numbers_of_both t = where_both (two_numbers (is_only Integer t)) p.numbers q.numbers

  abbrev texts_of_both : Option Types → Outcome (Option Texts)
  texts_of_both t = where_both (two_texts (is_only Text t)) p.texts q.texts

  abbrev after_texts : {A : Type 0} → (LeavesOf → Outcome A) → Option Types → Option (List ℕ) → Option Numbers → Option Texts → Outcome A
  after_texts k t f n x = k (record { types = t; format = f; numbers = n; texts = x; values = values_of p; other_values = values_of q })

  abbrev after_numbers : {A : Type 0} → (LeavesOf → Outcome A) → Option Types → Option (List ℕ) → Option Numbers → Outcome A
  after_numbers k t f n = and_then (texts_of_both t) (after_texts k t f n)

  abbrev after_format : {A : Type 0} → (LeavesOf → Outcome A) → Option Types → Option (List ℕ) → Outcome A
  after_format k t f = and_then (numbers_of_both t) (after_numbers k t f)

  abbrev after_types : {A : Type 0} → (LeavesOf → Outcome A) → Option Types → Outcome A
  after_types k t = and_then format_of_both (after_format k t)

  -- what is done with an outcome can be done behind the leaves
  leaves_moved : {A B : Type 0} (F : Outcome A → Outcome B) → Through F (Option Types) → Through F (Option (List ℕ)) → Through F (Option Numbers) → Through F (Option Texts)
      → (k : LeavesOf → Outcome A) → F (leaves_then p q k) ≡ leaves_then p q (λ l. F (k l))
  leaves_moved F by_types by_format by_numbers by_texts k =
      by_types types_of_both (after_types k)
      ∙ then_same types_of_both (λ t. F (after_types k t)) (after_types (λ l. F (k l))) (λ t.
      by_format format_of_both (after_format k t)
      ∙ then_same format_of_both (λ f. F (after_format k t f)) (after_format (λ l. F (k l)) t) (λ f.
      by_numbers (numbers_of_both t) (after_numbers k t f)
      ∙ then_same (numbers_of_both t) (λ n. F (after_numbers k t f n)) (after_numbers (λ l. F (k l)) t f) (λ n. by_texts (texts_of_both t) (after_texts k t f n))))

  leaves_same : {A : Type 0} (k h : LeavesOf → Outcome A) → ((l : LeavesOf) → k l ≡ h l) → leaves_then p q k ≡ leaves_then p q h
  leaves_same k h e =
      then_same types_of_both (after_types k) (after_types h) (λ t.
      then_same format_of_both (after_format k t) (after_format h t) (λ f.
      then_same (numbers_of_both t) (after_numbers k t f) (after_numbers h t f) (λ n.
      then_same (texts_of_both t) (after_texts k t f n) (after_texts h t f n) (λ x. e (record { types = t; format = f; numbers = n; texts = x; values = values_of p; other_values = values_of q })))))

module _ (d : Document) (join less : Schema → Schema → Outcome Schema) (w : Walk) where
  -- the subschemas of both sides
  abbrev subschemas : Same → Same → Schema → Outcome Schema
  subschemas ss tt' b = and_then (with_same d (on_made w join) (on_made w less) ss b) (λ b'. mapped tidied (with_same d (on_made w join) (on_made w less) tt' b'))

  -- the body behind the leaves
  abbrev rest : Bool → Lists → Named → Lists → Named → LeavesOf → Outcome Schema
  rest nulls ls ns ms os l =
      and_then (two_lists_parts (on_made w join) (is_only Array l.types) ls ms) (λ lists. and_then (two_named (on_made w join) nulls (is_only Object l.types) ns os) (λ named. body_outcome l lists named))

  abbrev whole : Same → Same → Outcome Schema → Outcome Schema
  whole ss tt' o = mapped (settled w) (and_then o (subschemas ss tt'))

  through : {X : Type 0} (ss tt' : Same) (o : Outcome X) (h : X → Outcome Schema) → whole ss tt' (and_then o h) ≡ and_then o (λ a. whole ss tt' (h a))
  through ss tt' o h = ap (mapped (settled w)) (after_after o h (subschemas ss tt')) ∙ mapped_after (settled w) o (λ a. and_then (h a) (subschemas ss tt'))

  rest_then : (nulls : Bool) (ss : Same) (ls : Lists) (ns : Named) (tt' : Same) (ms : Lists) (os : Named) (l : LeavesOf) → whole ss tt' (rest nulls ls ns ms os l) ≡ behind d join less w nulls ss ls ns tt' ms os l
  rest_then nulls ss ls ns tt' ms os l =
      ap (mapped (settled w)) (after_after (two_lists_parts (on_made w join) (is_only Array l.types) ls ms) (λ lists. and_then (two_named (on_made w join) nulls (is_only Object l.types) ns os) (λ named. body_outcome l lists named)) (subschemas ss tt')
      ∙ then_same (two_lists_parts (on_made w join) (is_only Array l.types) ls ms) (λ lists. and_then (and_then (two_named (on_made w join) nulls (is_only Object l.types) ns os) (λ named. body_outcome l lists named)) (subschemas ss tt'))
      (λ lists. and_then (two_named (on_made w join) nulls (is_only Object l.types) ns os) (λ named. and_then (body_outcome l lists named) (subschemas ss tt'))) (λ lists. after_after (two_named (on_made w join) nulls (is_only Object l.types) ns os) (λ named. body_outcome l lists named) (subschemas ss tt')))

  -- what is refused comes first, then the leaves
  two_by : (p : Plain) (ss : Same) (ls : Lists) (ns : Named) (q : Plain) (tt' : Same) (ms : Lists) (os : Named)
      → mapped (settled w) (two_objects d (on_made w join) (on_made w less) p ss ls ns q tt' ms os)
      ≡ refused ss (refused tt' (unless_mixed (names_mix ns os) (leaves_then p q (behind d join less w (counts_as_absent d.setting null) ss ls ns tt' ms os))))
  two_by p ss ls ns q tt' ms os =
      let nulls = counts_as_absent d.setting null in
      let body = leaves_then p q (rest nulls ls ns ms os) in
      let b = names_mix ns os in
      let f = settled w in
      mapped_refused f ss (refused tt' (unless_mixed b (and_then body (subschemas ss tt'))))
      ∙ ap (refused ss) (mapped_refused f tt' (unless_mixed b (and_then body (subschemas ss tt')))
      ∙ ap (refused tt') (mapped_mixed f b (and_then body (subschemas ss tt'))
      ∙ ap (unless_mixed b) (leaves_moved p q (whole ss tt') (through ss tt') (through ss tt') (through ss tt') (through ss tt') (rest nulls ls ns ms os)
      ∙ leaves_same p q (λ l. whole ss tt' (rest nulls ls ns ms os l)) (behind d join less w nulls ss ls ns tt' ms os) (λ l. rest_then nulls ss ls ns tt' ms os l))))

-- ---- of two objects of the program

pub same_seen : (o : SchemaObject) → same_in (object_view o) ≡ same_of (option_map subschemas_view (out-SchemaObject o).subschemas)
same_seen o = ap same_in (object_seen o)

pub lists_seen : (o : SchemaObject) → lists_in (object_view o) ≡ lists_of (option_map array_view (out-SchemaObject o).array)
lists_seen o = ap lists_in (object_seen o)

pub named_seen : (o : SchemaObject) → named_in (object_view o) ≡ named_of (option_map members_view (out-SchemaObject o).object)
named_seen o = ap named_in (object_seen o)

-- what is refused of one
pub refuses_in : {X : Type 0} {v : X → Outcome Schema} (o : SchemaObject) (p : Outcome Schema) (ns : List Note) (x : Result X Stop)
    → Goes v ns ns (refused (same_of (option_map subschemas_view (out-SchemaObject o).subschemas)) p) x → Goes v ns ns (refused (same_in (object_view o)) p) x
refuses_in {X} {v} o p ns x g = let P : Same → Type 0 = λ s. Goes v ns ns (refused s p) x in subst P (sym (same_seen o)) g

pub mixes_in : {X : Type 0} {v : X → Outcome Schema} (a b : SchemaObject) (p : Outcome Schema) (ns : List Note) (x : Result X Stop)
    → Goes v ns ns (unless_mixed (names_mix (named_of (option_map members_view (out-SchemaObject a).object)) (named_of (option_map members_view (out-SchemaObject b).object))) p) x
    → Goes v ns ns (unless_mixed (names_mix (named_in (object_view a)) (named_in (object_view b))) p) x
mixes_in {X} {v} a b p ns x g = let P : Bool → Type 0 = λ c. Goes v ns ns (unless_mixed c p) x in subst P (λ i. names_mix (sym (named_seen a) i) (sym (named_seen b) i)) g

-- what is left of both
pub both_left : (d : Document) (join less : Schema → Schema → Outcome Schema) (w : Walk) (nulls is_array is_object : Bool) (a b : SchemaObject) (l : LeavesOf) → is_array ≡ is_only Array l.types → is_object ≡ is_only Object l.types
    → behind_by d join less w nulls is_array is_object (same_of (option_map subschemas_view (out-SchemaObject a).subschemas)) (lists_of (option_map array_view (out-SchemaObject a).array)) (named_of (option_map members_view (out-SchemaObject a).object))
    (same_of (option_map subschemas_view (out-SchemaObject b).subschemas)) (lists_of (option_map array_view (out-SchemaObject b).array)) (named_of (option_map members_view (out-SchemaObject b).object)) l
    ≡ behind_two d join less w nulls (object_view a) (object_view b) l
both_left d join less w nulls is_array is_object a b l ha ho =
    (λ i. behind_by d join less w nulls (ha i) (ho i) (sym (same_seen a) i) (sym (lists_seen a) i) (sym (named_seen a) i) (sym (same_seen b) i) (sym (lists_seen b) i) (sym (named_seen b) i) l)

-- what is refused comes first, then the leaves, then what is behind them
pub objects_by : (d : Document) (join less : Schema → Schema → Outcome Schema) (s t : Schema)
    → objects_outcome d join less s t
    ≡ refused (same_in s) (refused (same_in t) (unless_mixed (names_mix (named_in s) (named_in t)) (leaves_then (plain_in s) (plain_in t) (behind_two d join less (walk_of_two s t) (counts_as_absent d.setting null) s t))))
objects_by d join less s t = two_by d join less (walk_of_two s t) (plain_in s) (same_in s) (lists_in s) (named_in s) (plain_in t) (same_in t) (lists_in t) (named_in t)
