-- Each row of the table is as emission asks.
use Rattle.std.proofs.Common.{◌≡◌, ◌<◌, ◌^◌, ◌+◌, ℕ, zero, suc, length, List, [], ◌∷◌, ◌++◌, map, Bool, true, false, ◌&&◌, ◌||◌, not, Option, Some, None, is_none, is_some, bytes_eq, refl, sym, ◌∙◌, subst, true≢false, codes, arith}
use Rattle.std.specs.Prelude.{if◌then◌else◌, nat_eq}
use Rattle.std.specs.List.{list_all, list_any}
use Rattle.std.proofs.lemmas.Slice.Eq.{bytes_eq-Decides}
use Rattle.json_value.specs.Value.{Value}
use Rattle.schema_defs.specs.declared.InstanceType.{InstanceType}
use Rattle.schema_defs.specs.declared.InstanceType.TheVariants.{Null, Integer}
use Rattle.schema_defs.specs.declared.Format.{Format}
use Rattle.schema_defs.specs.declared.Setting.{Setting}
use Rattle.schema_defs.specs.Location.{Location}
use Rattle.schema_defs.specs.Texts.{Relations}
use Rattle.schema_defs.specs.Schema.{Texts, Plain, Schema, boolean, object, Same, no_same, same_value, Lists, no_lists, lists, Named, no_named, named, MaybeSchema, no_schema, the_schema, no_list, the_list, Schemas, no_more, schema, Places, no_items, each_item, by_place, Properties, no_properties, property, ListRules, MemberRules, Document}
use Rattle.schema_defs.specs.Layer.{is_given}
use Rattle.model_defs.specs.Model.{allow_rule, deny_rule}
use Rattle.model_defs.specs.Layer.{is_null, is_text, is_boolean}
use Rattle.entry_defs.specs.Entry.{Target, unit_entry}
use Rattle.convert_defs.specs.Row.{names_note, Part, made, FieldRow, VariantRow, leaf_row, option_row, ruled_row, set_row, vec_row, map_row, refused_row, plainly, asking, bad_array, bad_value, mixed_enum, names as names_cause, nested_enum, noted, here, narrowed, widened, null_note, not_note, bad_not, string_note}
use Rattle.convert_defs.specs.Standing.{of_type, less_enum, alone, no_keyword}
use Rattle.enum_defs.specs.Words.{same_type, without_same}
use Rattle.convert_defs.specs.Scalars.{texts_entry, nullable_texts, listed_entry, unit_variants, never_entry, ruled_text, text_finding, given_format, wanted_of, enumerated, kept_texts, boolean_finding, listed_alone, is_owner, is_number, distinct, texts_in, without_nulls}
use Rattle.convert_defs.specs.Owners.{is_shut, are_alike, pattern_row, pattern_names, array_finding, object_finding, sized_finding, one_size, fixed_size, fixed_row, listed_parts, unlisted, open_list, is_true, is_by_place, no_property, is_empty, is_false, names_texts, map_of, struct_of, outside_names, outside_row, each_part, property_fields, other_part, name_part, counts_notes, names_notes, list_notes}
use Rattle.convert_defs.specs.Shapes.{Member, members_from, option_member as option_shape, external_members, adjacent_members as adjacent_shape, internal_members as internal_shape, TaggedShape, body_of_fields, less_property, placed_field}
use Rattle.convert_defs.specs.Table.{Line, lines, first_line, nullable, type_beside_null, lists_only_nulls, reference_row, row_of_target, target_of, allowed_row, listed, with_type, only_type, subschema_finding, finding_or, all_of_finding, any_of_finding, any_of_others, one_of_finding, not_finding, deny, under_not, denied, type_of_listed, has_one_type, no_others, only_member, constant_of, constant_finding, constant_list, beside_null, untagged_row, row_of, one_of_only, one_of_internal, one_of_adjacent, one_of_external, one_of_option}
use Rattle.enum_defs.specs.Exclusive.{exclusive}
use Rattle.convert_defs.specs.Shapes.{schemas_of}
use Rattle.convert_defs.specs.IntegerRow.{note_if}
use Rattle.convert_defs.specs.Proper.{IsProper, ProperLists}
use Rattle.convert_defs.proofs.Bare.{none-some, some-same}
use Rattle.convert_defs.proofs.PlacedShapes.{ObjectShape, branch_fields, internal_variant}
use Rattle.convert_defs.proofs.SameShapes.{whole, internal-found, adjacent-found}
use Rattle.document_laws.specs.Laws.{AsksForFew}
use Rattle.merged_documents.proofs.Deep.{Deep, DeepVariants}
use Rattle.merged_documents.proofs.ShapedRows.{Filled, keeps_some, Others, BesideBody, Beside, RowIsShaped}

abbrev AllShaped : List Line → Type 0
AllShaped [] = Unit {0}
AllShaped (l ∷ ls) = RowIsShaped l.finding.row × AllShaped ls

first_shaped : (ls : List Line) → AllShaped ls → RowIsShaped (first_line ls).row
first_shaped [] h = tt
first_shaped (l ∷ ls) h = by l.fits h.0 (first_shaped ls h.1)
  where
    by : (b : Bool) → RowIsShaped l.finding.row → RowIsShaped (first_line ls).row → RowIsShaped (if b then l.finding else first_line ls).row
    by true f g = f
    by false f g = g

-- ---- leaves

units_deep : (ts : List (List ℕ)) → DeepVariants (unit_variants ts)
units_deep [] = tt
units_deep (t ∷ ts) = (tt, units_deep ts)

never_deep : (n : List ℕ) → Deep (never_entry n)
never_deep n = (tt, tt)

texts_deep : (n : List ℕ) (ts : List (List ℕ)) → Deep (texts_entry n ts)
texts_deep n [] = (tt, tt)
texts_deep n (t ∷ ts) = (tt, (tt, units_deep ts))

nullable_texts_deep : (n : List ℕ) (ts : List (List ℕ)) → Deep (nullable_texts n ts)
nullable_texts_deep n [] = tt
nullable_texts_deep n (t ∷ ts) = texts_deep n (t ∷ ts)

listed_deep : (b : Bool) (n : List ℕ) (ts : List (List ℕ)) → Deep (listed_entry b n ts)
listed_deep true n ts = nullable_texts_deep n ts
listed_deep false n ts = texts_deep n ts

ruled_deep : (n : List ℕ) (o : Option Texts) → Deep (ruled_text n o)
ruled_deep n None = tt
ruled_deep n (Some c) = (tt, tt)

-- ---- sizes

abbrev Positive : ℕ → Type 0
Positive zero = ⊥
Positive (suc n) = Unit {0}

-- above 0, and a u64
abbrev IsSize : ℕ → Type 0
IsSize n = Positive n × (n < 2 ^ 64)

is_size : (k : ℕ) → suc k < 2 ^ 32 → IsSize (suc k)
is_size k h = (tt, omega arith)

one_is_size : (a b : Option ℕ) → ((n : ℕ) → a ≡ Some n → n < 2 ^ 32) → (n : ℕ) → one_size a b ≡ Some n → IsSize n
one_is_size None b f n h = none-some n h
one_is_size (Some zero) b f n h = none-some n h
one_is_size (Some (suc k)) None f n h = none-some n h
one_is_size (Some (suc k)) (Some m) f n h = by (nat_eq (suc k) m) h
  where
    by : (b : Bool) → (if b then Some (suc k) else None) ≡ Some n → IsSize n
    by true g = subst IsSize (some-same (suc k) n g) (is_size k (f (suc k) refl))
    by false g = none-some n g

fixed_is_size : (rules : ListRules) (contains : MaybeSchema) → AsksForFew rules → (n : ℕ) → fixed_size rules contains ≡ Some n → IsSize n
fixed_is_size rules contains f n h = by (is_none rules.unique_items && not (is_given contains)) h
  where
    by : (b : Bool) → (if b then one_size rules.min_items rules.max_items else None) ≡ Some n → IsSize n
    by true g = one_is_size rules.min_items rules.max_items f n g
    by false g = none-some n g

places_filled : (n : ℕ) (us : Schemas) → Positive n → Filled (listed_parts 0 n us) (unlisted n us)
places_filled zero us h = absurd h
places_filled (suc n) no_more h = tt
places_filled (suc n) (schema u us) h = tt

places_counted : (i n : ℕ) (us : Schemas) → length (listed_parts i n us) + unlisted n us ≡ n
places_counted i zero no_more = omega arith
places_counted i zero (schema u us) = omega arith
places_counted i (suc n) no_more = omega arith
places_counted i (suc n) (schema u us) = let rec = places_counted (suc i) n us in omega arith

fixed_shaped : (n : ℕ) (places : Places) (others : MaybeSchema) → IsSize n → RowIsShaped (fixed_row n places others)
fixed_shaped n no_items others h = h.1
fixed_shaped n (each_item u) others h = h.1
fixed_shaped n (by_place us) others h =
    let all = places_counted 0 n us in
    let few = h.1 in
    (places_filled n us h.0, omega arith)

open_shaped : (rules : ListRules) (q : Part) → RowIsShaped (open_list rules q)
open_shaped rules q = by (is_true rules.unique_items)
  where
    by : (b : Bool) → RowIsShaped (if b then set_row q else vec_row q)
    by true = tt
    by false = tt

sized_shaped : (places : Places) (others contains : MaybeSchema) (rules : ListRules) (o : Option ℕ) → ((n : ℕ) → o ≡ Some n → IsSize n) → RowIsShaped (sized_finding places others contains rules o).row
sized_shaped places others contains rules (Some n) f = fixed_shaped n places others (f n refl)
sized_shaped places others contains rules None f = by (is_by_place places || is_given contains)
  where
    by : (b : Bool) → RowIsShaped (if b then plainly (refused_row bad_array) else noted (list_notes rules) (open_list rules (each_part places))).row
    by true = tt
    by false = open_shaped rules (each_part places)

array_shaped : (d : Document) (ms : Lists) → ProperLists AsksForFew d ms → RowIsShaped (array_finding ms).row
array_shaped d no_lists h = tt
array_shaped d (lists places others contains rules) h = sized_shaped places others contains rules (fixed_size rules contains) (fixed_is_size rules contains h.3)

-- ---- objects

struct_may : (others : MaybeSchema) (ns : List (List ℕ)) → is_false others ≡ true → keeps_some (outside_row ns others) ≡ false
struct_may no_schema ns h = absurd (true≢false (sym h))
struct_may (the_schema (boolean true)) ns h = absurd (true≢false (sym h))
struct_may (the_schema (boolean false)) [] h = refl
struct_may (the_schema (boolean false)) (n ∷ ns) h = refl
struct_may (the_schema (object p ss ls ms)) ns h = absurd (true≢false (sym h))

struct_shaped : (setting : Setting) (props : Properties) (others : MaybeSchema) (rules : MemberRules) → RowIsShaped (struct_of setting props others rules)
struct_shaped setting props others rules = struct_may others (outside_names props rules.required)

map_shaped : (others names : MaybeSchema) → RowIsShaped (map_of others names)
map_shaped others names = by (names_texts names)
  where
    by : (b : Bool) → RowIsShaped (if b then map_row (name_part names) (other_part others) else refused_row names_cause)
    by true = tt
    by false = tt

object_shaped : (setting : Setting) (ms : Named) → RowIsShaped (object_finding setting ms).row
object_shaped setting no_named = tt
object_shaped setting (named props patterns others names rules) = by (no_property props && is_empty rules.required && no_property patterns && not (is_false others))
  where
    pattern_shaped : (qs : Properties) → RowIsShaped (pattern_row qs)
    pattern_shaped no_properties = tt
    pattern_shaped (property k u us) = tt

    second : (b : Bool) → RowIsShaped (if b then asking (pattern_names patterns) (noted (counts_notes rules ++ note_if (not (is_given others)) (here narrowed names_note)) (pattern_row patterns)) else noted (counts_notes rules ++ names_notes patterns names) (struct_of setting props others rules)).row
    second true = pattern_shaped patterns
    second false = struct_shaped setting props others rules

    by : (b : Bool) → RowIsShaped (if b then noted (counts_notes rules) (map_of others names) else if no_property props && is_empty rules.required && not (is_given names) && is_shut others && are_alike patterns then asking (pattern_names patterns) (noted (counts_notes rules ++ note_if (not (is_given others)) (here narrowed names_note)) (pattern_row patterns)) else noted (counts_notes rules ++ names_notes patterns names) (struct_of setting props others rules)).row
    by true = map_shaped others names
    by false = second (no_property props && is_empty rules.required && not (is_given names) && is_shut others && are_alike patterns)

-- ---- tags

turned : (a b : List ℕ) → bytes_eq b a ≡ false → bytes_eq a b ≡ false
turned a b h = by (bytes_eq a b) refl
  where
    by : (c : Bool) → bytes_eq a b ≡ c → c ≡ false
    by true x = absurd (true≢false (sym ((bytes_eq-Decides b a).1 (sym ((bytes_eq-Decides a b).0 x))) ∙ h))
    by false x = refl

others_beside : (setting : Setting) (req : List (List ℕ)) (l : Location) (tag : List ℕ) (ps : Properties) → Others tag (map (placed_field l) (property_fields setting req (less_property tag ps)))
others_beside setting req l tag no_properties = refl
others_beside setting req l tag (property k u ps) = by (bytes_eq tag k) refl (others_beside setting req l tag ps)
  where
    by : (b : Bool) → bytes_eq tag k ≡ b → Others tag (map (placed_field l) (property_fields setting req (less_property tag ps))) → Others tag (map (placed_field l) (property_fields setting req (if b then less_property tag ps else property k u (less_property tag ps))))
    by true e g = g
    by false e g = λ i. not (turned k tag e i) && g i

body_beside : (tag : List ℕ) (fs : List FieldRow) → Others tag fs → BesideBody tag (body_of_fields fs)
body_beside tag [] h = tt
body_beside tag (f ∷ fs) h = h

all_beside : (setting : Setting) (tag : List ℕ) (os : List ObjectShape) → Beside tag (map (internal_variant setting tag) os)
all_beside setting tag [] = tt
all_beside setting tag (o ∷ os) = (body_beside tag (branch_fields setting tag o) (others_beside setting o.required_names o.place tag o.props), all_beside setting tag os)

internal_shaped : (setting : Setting) (ms : List Member) (t : TaggedShape) → internal_shape setting ms ≡ Some t → Beside t.tag t.variants
internal_shaped setting ms t e =
    let f = internal-found setting ms t e in
    subst (λ x. Beside x.tag x.variants) (sym f.made) (all_beside setting f.tag (map whole ms))

adjacent_shaped : (ms : List Member) (t : TaggedShape) → adjacent_shape ms ≡ Some t → bytes_eq t.tag t.content ≡ false
adjacent_shaped ms t e =
    let f = adjacent-found ms t e in
    subst (λ x. bytes_eq x.tag x.content ≡ false) (sym f.made) (turned f.tag f.content f.differ)

module _ (r : Relations) (d : Document) (p : Plain) (ss : Same) (ls : Lists) (ns : Named) where
  -- ---- scalars

  text_shaped : (o : Option Format) → RowIsShaped (text_finding p o).row
  text_shaped (Some f) = tt
  text_shaped None = ruled_deep (wanted_of p) p.texts

  enumerated_shaped : (vs : List Value) → RowIsShaped (enumerated r p vs).row
  enumerated_shaped vs = by (list_all (λ v. is_text v || is_null v) vs)
    where
      by : (b : Bool) → RowIsShaped (if b then noted (note_if (list_any is_null vs) (here widened null_note) ++ note_if (is_some (given_format p)) (here widened string_note)) (leaf_row (listed_entry (list_any is_null vs) (wanted_of p) (kept_texts r p.texts vs))) else plainly (refused_row bad_value)).row
      by true = listed_deep (list_any is_null vs) (wanted_of p) (kept_texts r p.texts vs)
      by false = tt

  boolean_shaped : (o : Option (List Value)) → RowIsShaped (boolean_finding o).row
  boolean_shaped None = tt
  boolean_shaped (Some vs) = tt

  constant_shaped : (o : Option (List ℕ)) → RowIsShaped (constant_finding r p o).row
  constant_shaped None = tt
  constant_shaped (Some t) = enumerated_shaped (constant_list t p.enum_values)

  listed_shaped : (vs : List Value) → RowIsShaped (listed_alone p vs).row
  listed_shaped vs = a (list_any is_owner vs)
    where
      f : (b : Bool) → RowIsShaped (if b then plainly (ruled_row (made (alone (of_type Integer no_keyword))) (allow_rule vs)) else plainly (refused_row mixed_enum)).row
      f true = tt
      f false = tt

      e : (b : Bool) → RowIsShaped (if b then boolean_finding (Some vs) else if list_all is_number vs then plainly (ruled_row (made (alone (of_type Integer no_keyword))) (allow_rule vs)) else plainly (refused_row mixed_enum)).row
      e true = tt
      e false = f (list_all is_number vs)

      c : (b : Bool) → RowIsShaped (if b then plainly (leaf_row (texts_entry (wanted_of p) (distinct (texts_in vs)))) else if list_all is_boolean vs then boolean_finding (Some vs) else if list_all is_number vs then plainly (ruled_row (made (alone (of_type Integer no_keyword))) (allow_rule vs)) else plainly (refused_row mixed_enum)).row
      c true = texts_deep (wanted_of p) (distinct (texts_in vs))
      c false = e (list_all is_boolean vs)

      g : (b : Bool) → RowIsShaped (if b then plainly (option_row (made (alone (without_nulls vs p)))) else if list_all is_text vs then plainly (leaf_row (texts_entry (wanted_of p) (distinct (texts_in vs)))) else if list_all is_boolean vs then boolean_finding (Some vs) else if list_all is_number vs then plainly (ruled_row (made (alone (of_type Integer no_keyword))) (allow_rule vs)) else plainly (refused_row mixed_enum)).row
      g true = tt
      g false = c (list_all is_text vs)

      unit : (b : Bool) → Deep (if b then unit_entry else never_entry (wanted_of p))
      unit true = tt
      unit false = never_deep (wanted_of p)

      k : (b : Bool) → RowIsShaped (if b then plainly (leaf_row (if list_any is_null vs then unit_entry else never_entry (wanted_of p))) else if list_any is_null vs then plainly (option_row (made (alone (without_nulls vs p)))) else if list_all is_text vs then plainly (leaf_row (texts_entry (wanted_of p) (distinct (texts_in vs)))) else if list_all is_boolean vs then boolean_finding (Some vs) else if list_all is_number vs then plainly (ruled_row (made (alone (of_type Integer no_keyword))) (allow_rule vs)) else plainly (refused_row mixed_enum)).row
      k true = unit (list_any is_null vs)
      k false = g (list_any is_null vs)

      a : (b : Bool) → RowIsShaped (if b then plainly (refused_row nested_enum) else if list_all is_null vs then plainly (leaf_row (if list_any is_null vs then unit_entry else never_entry (wanted_of p))) else if list_any is_null vs then plainly (option_row (made (alone (without_nulls vs p)))) else if list_all is_text vs then plainly (leaf_row (texts_entry (wanted_of p) (distinct (texts_in vs)))) else if list_all is_boolean vs then boolean_finding (Some vs) else if list_all is_number vs then plainly (ruled_row (made (alone (of_type Integer no_keyword))) (allow_rule vs)) else plainly (refused_row mixed_enum)).row
      a true = tt
      a false = k (list_all is_null vs)

  -- ---- other schemas of the same value

  nullable_shaped : (o : Option InstanceType) → RowIsShaped (nullable p ss ls ns o)
  nullable_shaped None = tt
  nullable_shaped (Some k) = by (lists_only_nulls p.enum_values || same_type Null k)
    where
      by : (b : Bool) → RowIsShaped (if b then leaf_row unit_entry else option_row (made (object (beside_null (of_type k p)) ss ls ns)))
      by true = tt
      by false = tt

  reference_shaped : (o : Option (List ℕ)) → RowIsShaped (reference_row o)
  reference_shaped None = tt
  reference_shaped (Some q) = by (target_of q)
    where
      by : (u : Option Target) → RowIsShaped (row_of_target u)
      by None = tt
      by (Some t) = tt

  allowed_shaped : (q : Part) (vs : List Value) → RowIsShaped (allowed_row q vs)
  allowed_shaped q vs = by (list_any is_owner vs)
    where
      by : (b : Bool) → RowIsShaped (if b then refused_row nested_enum else ruled_row q (allow_rule vs))
      by true = tt
      by false = tt

  typed_shaped : (o : Option InstanceType) → RowIsShaped (with_type p ss ls ns o)
  typed_shaped None = tt
  typed_shaped (Some k) = tt

  -- ---- one of, any of, all of, not

  one_of_shaped : (n : List ℕ) (ms : List Member) → RowIsShaped (one_of_finding d n ms).row
  one_of_shaped n ms = optional (option_shape ms)
    where
      only : (x : Option Member) → RowIsShaped (one_of_only d ms x).row
      only (Some m) = tt
      only None = tt

      internal : (x : Option TaggedShape) → internal_shape d.setting ms ≡ x → RowIsShaped (one_of_internal d ms x).row
      internal (Some t) e = internal_shaped d.setting ms t e
      internal None e = only (only_member ms)

      adjacent : (x : Option TaggedShape) → adjacent_shape ms ≡ x → RowIsShaped (one_of_adjacent d ms x).row
      adjacent (Some t) e = adjacent_shaped ms t e
      adjacent None e = internal (internal_shape d.setting ms) refl

      external : (x : Option (List VariantRow)) → RowIsShaped (one_of_external d ms x).row
      external (Some ws) = tt
      external None = adjacent (adjacent_shape ms) refl

      optional : (x : Option Member) → RowIsShaped (one_of_option d ms x).row
      optional (Some m) = tt
      optional None = external (external_members ms)

  any_of_shaped : (n : List ℕ) (ms : List Member) → RowIsShaped (any_of_finding d n ms).row
  any_of_shaped n [] = never_deep n
  any_of_shaped n (m ∷ ms) = by (option_shape (m ∷ ms))
    where
      apart : (b : Bool) → RowIsShaped (if b then one_of_finding d n (m ∷ ms) else plainly (untagged_row (m ∷ ms))).row
      apart true = one_of_shaped n (m ∷ ms)
      apart false = tt

      by : (x : Option Member) → RowIsShaped (any_of_others d n (m ∷ ms) x).row
      by None = apart (exclusive d (schemas_of (m ∷ ms)))
      by (Some k) = tt

  all_of_shaped : (ms : List Member) → RowIsShaped (all_of_finding ms).row
  all_of_shaped [] = tt
  all_of_shaped (m ∷ []) = tt
  all_of_shaped (m ∷ k ∷ ms) = tt

  deny_shaped : (q : Part) (vs : List Value) → RowIsShaped (deny q vs).row
  deny_shaped q vs = by (list_any is_owner vs)
    where
      by : (b : Bool) → RowIsShaped (if b then plainly (refused_row nested_enum) else noted (here narrowed not_note ∷ []) (ruled_row q (deny_rule vs))).row
      by true = tt
      by false = tt

  denied_shaped : (o : Option InstanceType) (vs : List Value) → RowIsShaped (denied o vs).row
  denied_shaped None vs = tt
  denied_shaped (Some k) vs = deny_shaped (made (alone (of_type k no_keyword))) vs

  not_shaped : (n : List ℕ) (u : Schema) → RowIsShaped (not_finding n u).row
  not_shaped n (boolean true) = never_deep n
  not_shaped n (boolean false) = tt
  not_shaped n (object q sq lq nq) = a (is_none q.types && no_others q lq nq && without_same sq)
    where
      c : (b : Bool) → RowIsShaped (if b then denied (type_of_listed (listed q.enum_values)) (listed q.enum_values) else plainly (refused_row bad_not)).row
      c true = denied_shaped (type_of_listed (listed q.enum_values)) (listed q.enum_values)
      c false = tt

      g : (b : Bool) → RowIsShaped (if b then deny (under_not (object (less_enum q) sq lq nq)) (listed q.enum_values) else if is_none q.types && is_some q.enum_values && no_others (less_enum q) lq nq && without_same sq then denied (type_of_listed (listed q.enum_values)) (listed q.enum_values) else plainly (refused_row bad_not)).row
      g true = deny_shaped (under_not (object (less_enum q) sq lq nq)) (listed q.enum_values)
      g false = c (is_none q.types && is_some q.enum_values && no_others (less_enum q) lq nq && without_same sq)

      a : (b : Bool) → RowIsShaped (if b then plainly (leaf_row (never_entry n)) else if has_one_type q.types && is_some q.enum_values then deny (under_not (object (less_enum q) sq lq nq)) (listed q.enum_values) else if is_none q.types && is_some q.enum_values && no_others (less_enum q) lq nq && without_same sq then denied (type_of_listed (listed q.enum_values)) (listed q.enum_values) else plainly (refused_row bad_not)).row
      a true = never_deep n
      a false = g (has_one_type q.types && is_some q.enum_values)

  subschemas_shaped : (n : List ℕ) (x : Same) → RowIsShaped (finding_or (subschema_finding d n x)).row
  subschemas_shaped n no_same = tt
  subschemas_shaped n (same_value (the_list us) no_list no_list no_schema false) = all_of_shaped (members_from (codes "allOf") 0 us)
  subschemas_shaped n (same_value no_list (the_list us) no_list no_schema false) = any_of_shaped n (members_from (codes "anyOf") 0 us)
  subschemas_shaped n (same_value no_list no_list (the_list us) no_schema false) = one_of_shaped n (members_from (codes "oneOf") 0 us)
  subschemas_shaped n (same_value no_list no_list no_list (the_schema u) false) = not_shaped n u
  subschemas_shaped n _ = tt

  -- ---- the table

  row_shaped : ProperLists AsksForFew d ls → RowIsShaped (first_line (lines r d p ss ls ns)).row
  row_shaped h = first_shaped (lines r d p ss ls ns) (
    tt,
    (nullable_shaped (type_beside_null p.types), (text_shaped (given_format p), (text_shaped (given_format p), (enumerated_shaped (listed p.enum_values), (constant_shaped (constant_of p), (tt, (boolean_shaped p.enum_values, (object_shaped d.setting ns, (object_shaped d.setting ns, (array_shaped d ls h, (array_shaped d ls h, (tt, (tt, (reference_shaped p.reference, (reference_shaped p.reference, (tt, (allowed_shaped (made (object (less_enum p) ss ls ns)) (listed p.enum_values), (listed_shaped (listed p.enum_values), (subschemas_shaped (wanted_of p) ss, (tt, (tt, (tt, (typed_shaped (only_type p.types), (tt, tt)))))))))))))))))))))))),
  )

pub finding_shaped : (r : Relations) (d : Document) (s : Schema) → IsProper AsksForFew d s → RowIsShaped (row_of r d s)
finding_shaped r d (boolean true) h = tt
finding_shaped r d (boolean false) h = never_deep []
finding_shaped r d (object p ss ls ns) h = row_shaped r d p ss ls ns h.2
