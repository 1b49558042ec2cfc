-- The default that a field of a row states is that of the schema which its part converts.
use Rattle.std.proofs.Common.{◌≡◌, ℕ, List, [], ◌∷◌, map, Bool, true, false, ◌&&◌, ◌||◌, not, codes, Option, Some, None, option_map, refl, ap, ◌∙◌}
use Rattle.std.specs.Prelude.{if◌then◌else◌, is_none, is_some, filter}
use Rattle.std.specs.List.{AllByRecursion, list_any, list_all}
use Rattle.json_value.specs.Value.{Value}
use Rattle.schema_defs.specs.declared.InstanceType.{InstanceType}
use Rattle.schema_defs.specs.declared.InstanceType.TheVariants.{Null}
use Rattle.schema_defs.specs.declared.Format.{Format}
use Rattle.schema_defs.specs.declared.Setting.{Setting}
use Rattle.schema_defs.specs.declared.Setting.TheVariants.{Strict}
use Rattle.schema_defs.specs.Location.{Location}
use Rattle.schema_defs.specs.Texts.{Relations}
use Rattle.schema_defs.specs.Schema.{Plain, Schema, boolean, object, Same, no_same, same_value, Lists, no_lists, lists, Named, no_named, named, MaybeSchema, no_schema, the_schema, no_list, the_list, Places, no_items, each_item, by_place, Properties, no_properties, property, ListRules, Document}
use Rattle.schema_defs.specs.Layer.{is_given}
use Rattle.model_defs.specs.Layer.{is_null, is_text, is_boolean}
use Rattle.entry_defs.specs.Entry.{Target, State, required, optional, stated}
use Rattle.enum_defs.specs.Words.{same_type, without_same, is_name, required_of}
use Rattle.enum_defs.specs.Shapes.{Case, external_cases, external_shape, InternalShape, internal_shape, AdjacentShape, adjacent_shape, members_of}
use Rattle.enum_defs.specs.Exclusive.{exclusive}
use Rattle.convert_defs.specs.Row.{Part, child, of_branch, lone, made, FieldRow, VariantBody, unit_body, part_body, fields_body, VariantRow, Row, struct_row, enum_row, Finding}
use Rattle.convert_defs.specs.Scalars.{given_format, text_finding, enumerated, boolean_finding, is_owner, is_number, listed_alone}
use Rattle.convert_defs.specs.Owners.{default_of, state_of, property_fields, is_true, fixed_row, is_by_place, sized_finding, fixed_size, array_finding, no_property, is_empty, is_false, is_shut, are_alike, names_texts, pattern_row, object_finding}
use Rattle.convert_defs.specs.Shapes.{Member, members_from, schemas_of, option_member, case_body, case_row, case_rows, external_rows, external_members, less_property, properties_in, placed_part, placed_field, fields_beside, body_of_fields, internal_variant, internal_of, internal_members, body_of_field, adjacent_variant, adjacent_of, adjacent_members, TaggedShape}
use Rattle.convert_defs.specs.Standing.{less_enum}
use Rattle.convert_defs.specs.Table.{Line, lines, first_line, nullable, lists_only_nulls, row_of_target, reference_row, target_of, allowed_row, listed, with_type, only_type, type_beside_null, constant_list, constant_finding, constant_of, only_member, untagged_variant, one_of_only, one_of_internal, one_of_adjacent, one_of_external, one_of_option, any_of_others, any_of_finding, all_of_finding, deny, denied, type_of_listed, has_one_type, no_others, not_finding, subschema_finding, finding_or, type_among, variant_order, type_variant, row_of}
use Rattle.convert_walks.specs.Spot.{part_schema}
use Rattle.default_documents.proofs.Lists.{all-flat, all-mapped}

abbrev pub OwnField : FieldRow → Type 0
OwnField f = (v : Value) → f.state ≡ stated v → default_of (part_schema f.part) ≡ Some v

abbrev pub OwnBody : VariantBody → Type 0
OwnBody unit_body = Unit {0}
OwnBody (part_body p) = Unit {0}
OwnBody (fields_body fs) = AllByRecursion OwnField fs

abbrev OwnVariant : VariantRow → Type 0
OwnVariant w = OwnBody w.body

abbrev OwnVariants : List VariantRow → Type 0
OwnVariants ws = AllByRecursion OwnVariant ws

abbrev pub StatesOwn : Row → Type 0
StatesOwn (struct_row closed fs o) = AllByRecursion OwnField fs
StatesOwn (enum_row tag closing ws) = AllByRecursion (λ w. OwnBody w.body) ws
StatesOwn _ = Unit {0}

either : (b : Bool) (x y : Finding) → StatesOwn x.row → StatesOwn y.row → StatesOwn (if b then x else y).row
either true x y f g = f
either false x y f g = g

either-row : (b : Bool) (x y : Row) → StatesOwn x → StatesOwn y → StatesOwn (if b then x else y)
either-row true x y f g = f
either-row false x y f g = g

abbrev AllOwn : List Line → Type 0
AllOwn [] = Unit {0}
AllOwn (l ∷ ls) = StatesOwn l.finding.row × AllOwn ls

first-own : (ls : List Line) → AllOwn ls → StatesOwn (first_line ls).row
first-own [] h = tt
first-own (l ∷ ls) h = either l.fits l.finding (first_line ls) h.0 (first-own ls h.1)

-- ---- fields

default_in : State → Option Value
default_in required = None
default_in optional = None
default_in (stated v) = Some v

state-own : (b : Bool) (o : Option Value) (v : Value) → state_of b o ≡ stated v → o ≡ Some v
unfolding default_in
state-own true o v h = absurd (cc)
state-own false None v h = absurd (cc)
state-own false (Some w) v h = ap default_in h

properties-own : (setting : Setting) (req : List (List ℕ)) (ps : Properties) → AllByRecursion OwnField (property_fields setting req ps)
properties-own setting req no_properties = tt
properties-own setting req (property k s ps) = (λ v h. state-own (is_name k req) (default_of s) v h, properties-own setting req ps)

same-schema : (l : Location) (p : Part) → part_schema (placed_part l p) ≡ part_schema p
same-schema l (child k s) = refl
same-schema l (of_branch k s) = refl
same-schema l (lone k s) = refl
same-schema l (made s) = refl

placed-own : (l : Location) (fs : List FieldRow) → AllByRecursion OwnField fs → AllByRecursion OwnField (map (placed_field l) fs)
placed-own l [] h = tt
placed-own l (f ∷ fs) h = (λ v e. ap default_of (same-schema l f.part) ∙ h.0 v e, placed-own l fs h.1)

-- ---- variants

fields-own : (fs : List FieldRow) → AllByRecursion OwnField fs → OwnBody (body_of_fields fs)
fields-own [] h = tt
fields-own (f ∷ fs) h = h

field-own : (fs : List FieldRow) → OwnBody (body_of_field fs)
field-own [] = tt
field-own (f ∷ fs) = tt

case-own : (l : Location) (k : List ℕ) (o : Option Schema) → OwnBody (case_body l k o)
case-own l k None = tt
case-own l k (Some s) = tt

cases-own : (l : Location) (o : Option (List Case)) → OwnVariants (case_rows l o)
cases-own l None = tt
cases-own l (Some cs) = all-mapped OwnVariant (case_row l) (λ c. case-own l c.name c.content) cs

abbrev OwnRows : Option (List VariantRow) → Type 0
OwnRows None = Unit {0}
OwnRows (Some ws) = OwnVariants ws

abbrev OwnShape : Option TaggedShape → Type 0
OwnShape None = Unit {0}
OwnShape (Some t) = OwnVariants t.variants

external-own : (ms : List Member) → OwnRows (external_members ms)
external-own ms = by (external_shape (schemas_of ms))
  where
    by : (o : Option (List Case)) → OwnRows (option_map (λ cs. external_rows ms) o)
    by None = tt
    by (Some cs) = all-flat OwnVariant (λ m. case_rows m.0 (external_cases m.1)) (λ m. cases-own m.0 (external_cases m.1)) ms

internal-own : (setting : Setting) (ms : List Member) → OwnShape (internal_members setting ms)
internal-own setting ms = by (internal_shape (schemas_of ms))
  where
    own : (tag : List ℕ) (m : Member) → OwnVariant (internal_variant setting tag m)
    own tag m = fields-own (fields_beside setting tag m) (placed-own m.0 (property_fields setting (required_of (members_of m.1)) (less_property tag (properties_in m.1))) (properties-own setting (required_of (members_of m.1)) (less_property tag (properties_in m.1))))

    by : (o : Option InternalShape) → OwnShape (option_map (internal_of setting ms) o)
    by None = tt
    by (Some s) = all-mapped OwnVariant (internal_variant setting s.tag) (own s.tag) ms

adjacent-own : (ms : List Member) → OwnShape (adjacent_members ms)
adjacent-own ms = by (adjacent_shape (schemas_of ms))
  where
    by : (o : Option AdjacentShape) → OwnShape (option_map (adjacent_of ms) o)
    by None = tt
    by (Some s) = all-mapped OwnVariant (adjacent_variant s.tag) (λ m. field-own (fields_beside Strict s.tag m)) ms

untagged-own : (ms : List Member) → OwnVariants (map untagged_variant ms)
untagged-own ms = all-mapped OwnVariant untagged_variant (λ m. tt) ms

-- ---- owners

pattern-own : (qs : Properties) → StatesOwn (pattern_row qs)
pattern-own no_properties = tt
pattern-own (property k u us) = tt

object-own : (setting : Setting) (ms : Named) → StatesOwn (object_finding setting ms).row
object-own setting no_named = tt
object-own setting (named props patterns others names rules) =
    either (no_property props && is_empty rules.required && no_property patterns && not (is_false others)) _ _ (either-row (names_texts names) _ _ tt tt) (
    either (no_property props && is_empty rules.required && not (is_given names) && is_shut others && are_alike patterns) _ _ (pattern-own patterns) (properties-own setting rules.required props))

fixed-own : (n : ℕ) (places : Places) (others : MaybeSchema) → StatesOwn (fixed_row n places others)
fixed-own n no_items others = tt
fixed-own n (each_item u) others = tt
fixed-own n (by_place us) others = tt

sized-own : (places : Places) (others contains : MaybeSchema) (rules : ListRules) (o : Option ℕ) → StatesOwn (sized_finding places others contains rules o).row
sized-own places others contains rules (Some n) = fixed-own n places others
sized-own places others contains rules None = either (is_by_place places || is_given contains) _ _ tt (either-row (is_true rules.unique_items) _ _ tt tt)

array-own : (ms : Lists) → StatesOwn (array_finding ms).row
array-own no_lists = tt
array-own (lists places others contains rules) = sized-own places others contains rules (fixed_size rules contains)

-- ---- subschemas

deny-own : (q : Part) (vs : List Value) → StatesOwn (deny q vs).row
deny-own q vs = either (list_any is_owner vs) _ _ tt tt

module _ (d : Document) where
  only-own : (ms : List Member) (o : Option Member) → StatesOwn (one_of_only d ms o).row
  only-own ms (Some m) = tt
  only-own ms None = untagged-own ms

  beside-own : (ms : List Member) (o : Option TaggedShape) → OwnShape o → StatesOwn (one_of_internal d ms o).row
  beside-own ms (Some t) h = h
  beside-own ms None h = only-own ms (only_member ms)

  content-own : (ms : List Member) (o : Option TaggedShape) → OwnShape o → StatesOwn (one_of_adjacent d ms o).row
  content-own ms (Some t) h = h
  content-own ms None h = beside-own ms (internal_members d.setting ms) (internal-own d.setting ms)

  rows-own : (ms : List Member) (o : Option (List VariantRow)) → OwnRows o → StatesOwn (one_of_external d ms o).row
  rows-own ms (Some ws) h = h
  rows-own ms None h = content-own ms (adjacent_members ms) (adjacent-own ms)

  one-own : (ms : List Member) (o : Option Member) → StatesOwn (one_of_option d ms o).row
  one-own ms (Some m) = tt
  one-own ms None = rows-own ms (external_members ms) (external-own ms)

  others-own : (n : List ℕ) (ms : List Member) (o : Option Member) → StatesOwn (any_of_others d n ms o).row
  others-own n ms (Some m) = tt
  others-own n ms None = either (exclusive d (schemas_of ms)) _ _ (one-own ms (option_member ms)) (untagged-own ms)

  any-own : (n : List ℕ) (ms : List Member) → StatesOwn (any_of_finding d n ms).row
  any-own n [] = tt
  any-own n (m ∷ ms) = others-own n (m ∷ ms) (option_member (m ∷ ms))

  all-own : (ms : List Member) → StatesOwn (all_of_finding ms).row
  all-own [] = tt
  all-own (m ∷ []) = tt
  all-own (m ∷ l ∷ ms) = tt

  denied-own : (o : Option InstanceType) (vs : List Value) → StatesOwn (denied o vs).row
  denied-own None vs = tt
  denied-own (Some k) vs = deny-own _ vs

  not-own : (n : List ℕ) (s : Schema) → StatesOwn (not_finding n s).row
  not-own n (boolean true) = tt
  not-own n (boolean false) = tt
  not-own n (object q sq lq nq) =
      either (is_none q.types && no_others q lq nq && without_same sq) _ _ tt (
      either (has_one_type q.types && is_some q.enum_values) _ _ (deny-own _ (listed q.enum_values)) (
      either (is_none q.types && is_some q.enum_values && no_others (less_enum q) lq nq && without_same sq) _ _ (denied-own (type_of_listed (listed q.enum_values)) (listed q.enum_values)) tt))

  same-own : (n : List ℕ) (x : Same) → StatesOwn (finding_or (subschema_finding d n x)).row
  same-own n no_same = tt
  same-own n (same_value (the_list us) no_list no_list no_schema false) = all-own (members_from (codes "allOf") 0 us)
  same-own n (same_value no_list (the_list us) no_list no_schema false) = any-own n (members_from (codes "anyOf") 0 us)
  same-own n (same_value no_list no_list (the_list us) no_schema false) = one-own (members_from (codes "oneOf") 0 us) (option_member (members_from (codes "oneOf") 0 us))
  same-own n (same_value no_list no_list no_list (the_schema u) false) = not-own n u
  same-own n _ = tt

-- ---- the table

module _ (r : Relations) (d : Document) (p : Plain) (ss : Same) (ls : Lists) (ns : Named) where
  text-own : (o : Option Format) → StatesOwn (text_finding p o).row
  text-own (Some f) = tt
  text-own None = tt

  boolean-own : (o : Option (List Value)) → StatesOwn (boolean_finding o).row
  boolean-own None = tt
  boolean-own (Some vs) = tt

  alone-own : (vs : List Value) → StatesOwn (listed_alone p vs).row
  alone-own vs =
      either (list_any is_owner vs) _ _ tt (
      either (list_all is_null vs) _ _ tt (
      either (list_any is_null vs) _ _ tt (
      either (list_all is_text vs) _ _ tt (
      either (list_all is_boolean vs) _ _ tt (
      either (list_all is_number vs) _ _ tt tt)))))

  enumerated-own : (vs : List Value) → StatesOwn (enumerated r p vs).row
  enumerated-own vs = either (list_all (λ v. is_text v || is_null v) vs) _ _ tt tt

  constant-own : (o : Option (List ℕ)) → StatesOwn (constant_finding r p o).row
  constant-own None = tt
  constant-own (Some t) = enumerated-own (constant_list t p.enum_values)

  nullable-own : (o : Option InstanceType) → StatesOwn (nullable p ss ls ns o)
  nullable-own None = tt
  nullable-own (Some k) = either-row (lists_only_nulls p.enum_values || same_type Null k) _ _ tt tt

  target-own : (o : Option Target) → StatesOwn (row_of_target o)
  target-own None = tt
  target-own (Some t) = tt

  reference-own : (o : Option (List ℕ)) → StatesOwn (reference_row o)
  reference-own None = tt
  reference-own (Some q) = target-own (target_of q)

  allowed-own : (q : Part) (vs : List Value) → StatesOwn (allowed_row q vs)
  allowed-own q vs = either-row (list_any is_owner vs) _ _ tt tt

  typed-own : (o : Option InstanceType) → StatesOwn (with_type p ss ls ns o)
  typed-own None = tt
  typed-own (Some k) = tt

  types-own : (ks : List InstanceType) → OwnVariants (map (type_variant p ls ns) ks)
  types-own ks = all-mapped OwnVariant (type_variant p ls ns) (λ k. tt) ks

  lines-own : StatesOwn (first_line (lines r d p ss ls ns)).row
  lines-own = first-own (lines r d p ss ls ns) (
    tt,
    (nullable-own (type_beside_null p.types), (text-own (given_format p), (text-own (given_format p), (enumerated-own (listed p.enum_values), (constant-own (constant_of p), (tt, (boolean-own p.enum_values, (object-own d.setting ns, (object-own d.setting ns, (array-own ls, (array-own ls, (tt, (tt, (reference-own p.reference, (reference-own p.reference, (tt, (allowed-own _ (listed p.enum_values), (alone-own (listed p.enum_values), (same-own d _ ss, (tt, (tt, (tt, (typed-own (only_type p.types), (types-own (filter (λ k. type_among k p.types) variant_order), tt)))))))))))))))))))))))),
  )

pub row_states_own : (r : Relations) (d : Document) (s : Schema) → StatesOwn (row_of r d s)
row_states_own r d (boolean true) = tt
row_states_own r d (boolean false) = tt
row_states_own r d (object p ss ls ns) = lines-own r d p ss ls ns
