-- Each row of the table is so.
use Rattle.std.proofs.Common.{◌≡◌, ℕ, List, [], ◌∷◌, ◌++◌, Bool, true, false, ◌&&◌, ◌||◌, not, Option, Some, None, is_none, is_some, bytes_eq, refl, ap, codes}
use Rattle.std.specs.Prelude.{if◌then◌else◌, filter}
use Rattle.std.specs.List.{list_all, list_any}
use Rattle.json_value.specs.Value.{Value}
use Rattle.schema_defs.specs.declared.InstanceType.{InstanceType}
use Rattle.schema_defs.specs.declared.InstanceType.TheVariants.{Null, Integer}
use Rattle.schema_defs.specs.declared.Format.{Format}
use Rattle.schema_defs.specs.declared.Setting.{Setting}
use Rattle.schema_defs.specs.Texts.{Relations}
use Rattle.schema_defs.specs.Schema.{Texts, Plain, Schema, boolean, object, Same, no_same, same_value, Lists, no_lists, lists, Named, no_named, named, MaybeSchema, no_schema, the_schema, no_list, the_list, Places, no_items, each_item, by_place, Properties, no_properties, property, ListRules, Document}
use Rattle.schema_defs.specs.Layer.{is_given, texts_agree, if_given}
use Rattle.model_defs.specs.Model.{allow_rule, deny_rule}
use Rattle.model_defs.specs.Layer.{is_null, is_text, is_boolean}
use Rattle.entry_defs.specs.Entry.{Target, unit_entry}
use Rattle.entry_defs.specs.Table.{items_in_variants}
use Rattle.convert_defs.specs.Row.{names_note, Part, made, VariantRow, leaf_row, option_row, ruled_row, set_row, vec_row, map_row, refused_row, plainly, asking, bad_array, bad_value, mixed_enum, names as names_cause, nested_enum, noted, here, narrowed, widened, null_note, not_note, bad_not, string_note}
use Rattle.convert_defs.specs.Standing.{of_type, less_enum, alone, no_keyword}
use Rattle.enum_defs.specs.Words.{same_type, without_same}
use Rattle.convert_defs.specs.Apart.{differ}
use Rattle.convert_defs.specs.Scalars.{texts_entry, nullable_texts, listed_entry, unit_variants, never_entry, ruled_text, text_finding, given_format, wanted_of, enumerated, kept_texts, boolean_finding, listed_alone, is_owner, is_number, distinct, texts_in, without_nulls}
use Rattle.convert_defs.specs.Owners.{is_shut, are_alike, pattern_row, pattern_names, array_finding, object_finding, sized_finding, fixed_size, fixed_row, open_list, is_true, is_by_place, no_property, is_empty, is_false, names_texts, map_of, struct_of, each_part, other_part, name_part, counts_notes, names_notes, list_notes}
use Rattle.convert_defs.specs.Shapes.{Member, members_from, option_member as option_shape, external_members, adjacent_members as adjacent_shape, internal_members as internal_shape, TaggedShape}
use Rattle.convert_defs.specs.Table.{Line, lines, first_line, nullable, type_beside_null, lists_only_nulls, reference_row, row_of_target, target_of, allowed_row, listed, with_type, only_type, subschema_finding, finding_or, all_of_finding, any_of_finding, any_of_others, one_of_finding, not_finding, deny, under_not, denied, type_of_listed, has_one_type, no_others, only_member, constant_of, constant_finding, constant_list, beside_null, untagged_row, row_of, one_of_only, one_of_internal, one_of_adjacent, one_of_external, one_of_option}
use Rattle.enum_defs.specs.Exclusive.{exclusive}
use Rattle.convert_defs.specs.Shapes.{schemas_of}
use Rattle.convert_defs.specs.IntegerRow.{note_if}
use Rattle.entry_defs.specs.Entry.{variants_of}
use Rattle.convert_defs.proofs.Bare.{and_left, and_right}
use Rattle.emitted_back.specs.Laws.{variants_differ}
use Rattle.emitted_back.proofs.Fields.{both, differ_back, not_true}
use Rattle.apart_laws.proofs.Items.{AllApart, Within}
use Rattle.apart_laws.proofs.Rows.{RowIsApart}
use Rattle.apart_laws.proofs.Names.{all_scalars, distinct_differ, external_differ, internal_differ, adjacent_differ}

abbrev AllLines : List Line → Type 0
AllLines [] = Unit {0}
AllLines (l ∷ ls) = RowIsApart l.finding.row × AllLines ls

first_apart : (ls : List Line) → AllLines ls → RowIsApart (first_line ls).row
first_apart [] h = tt
first_apart (l ∷ ls) h = by l.fits h.0 (first_apart ls h.1)
  where
    by : (b : Bool) → RowIsApart l.finding.row → RowIsApart (first_line ls).row → RowIsApart (if b then l.finding else first_line ls).row
    by true f g = f
    by false f g = g

-- ---- leaves

units_within : (ts : List (List ℕ)) → AllApart (items_in_variants (unit_variants ts))
units_within [] = tt
units_within (t ∷ ts) = units_within ts

none_named : (n : List ℕ) (ts : List (List ℕ)) → list_all (λ m. not (bytes_eq n m)) ts ≡ true → list_all (λ u. not (bytes_eq u.name n)) (variants_of (unit_variants ts)) ≡ true
none_named n [] h = refl
none_named n (t ∷ ts) h =
    both (not (bytes_eq t n)) _ (ap not (differ_back n t (not_true (bytes_eq n t) (and_left _ _ h)))) (none_named n ts (and_right (not (bytes_eq n t)) _ h))

units_differ : (ts : List (List ℕ)) → differ ts ≡ true → variants_differ (variants_of (unit_variants ts)) ≡ true
units_differ [] h = refl
units_differ (t ∷ ts) h =
    both (list_all (λ u. not (bytes_eq u.name t)) (variants_of (unit_variants ts))) _ (none_named t ts (and_left _ _ h)) (units_differ ts (and_right (list_all (λ m. not (bytes_eq t m)) ts) _ h))

never_within : (n : List ℕ) → Within (never_entry n)
never_within n = (record { variants = refl; rules = refl }, tt)

texts_within : (n : List ℕ) (ts : List (List ℕ)) → differ ts ≡ true → Within (texts_entry n ts)
texts_within n [] h = never_within n
texts_within n (t ∷ ts) h = (record { variants = units_differ (t ∷ ts) h; rules = refl }, units_within (t ∷ ts))

nullable_within : (n : List ℕ) (ts : List (List ℕ)) → differ ts ≡ true → Within (nullable_texts n ts)
nullable_within n [] h = tt
nullable_within n (t ∷ ts) h = texts_within n (t ∷ ts) h

listed_within : (b : Bool) (n : List ℕ) (ts : List (List ℕ)) → differ ts ≡ true → Within (listed_entry b n ts)
listed_within true n ts h = nullable_within n ts h
listed_within false n ts h = texts_within n ts h

ruled_within : (n : List ℕ) (o : Option Texts) → Within (ruled_text n o)
ruled_within n None = tt
ruled_within n (Some c) = (record { variants = refl; rules = refl }, tt)

-- ---- lists

fixed_apart : (n : ℕ) (places : Places) (others : MaybeSchema) → RowIsApart (fixed_row n places others)
fixed_apart n no_items others = tt
fixed_apart n (each_item u) others = tt
fixed_apart n (by_place us) others = tt

open_apart : (rules : ListRules) (q : Part) → RowIsApart (open_list rules q)
open_apart rules q = by (is_true rules.unique_items)
  where
    by : (b : Bool) → RowIsApart (if b then set_row q else vec_row q)
    by true = tt
    by false = tt

sized_apart : (places : Places) (others contains : MaybeSchema) (rules : ListRules) (o : Option ℕ) → RowIsApart (sized_finding places others contains rules o).row
sized_apart places others contains rules (Some n) = fixed_apart n places others
sized_apart places others contains rules None = by (is_by_place places || is_given contains)
  where
    by : (b : Bool) → RowIsApart (if b then plainly (refused_row bad_array) else noted (list_notes rules) (open_list rules (each_part places))).row
    by true = tt
    by false = open_apart rules (each_part places)

array_apart : (ms : Lists) → RowIsApart (array_finding ms).row
array_apart no_lists = tt
array_apart (lists places others contains rules) = sized_apart places others contains rules (fixed_size rules contains)

-- ---- objects

map_apart : (others names : MaybeSchema) → RowIsApart (map_of others names)
map_apart others names = by (names_texts names)
  where
    by : (b : Bool) → RowIsApart (if b then map_row (name_part names) (other_part others) else refused_row names_cause)
    by true = tt
    by false = tt

object_apart : (setting : Setting) (ms : Named) → RowIsApart (object_finding setting ms).row
object_apart setting no_named = tt
object_apart setting (named props patterns others names rules) = by (no_property props && is_empty rules.required && no_property patterns && not (is_false others))
  where
    pattern_apart : (qs : Properties) → RowIsApart (pattern_row qs)
    pattern_apart no_properties = tt
    pattern_apart (property k u us) = tt

    second : (b : Bool) → RowIsApart (if b then asking (pattern_names patterns) (noted (counts_notes rules ++ note_if (not (is_given others)) (here narrowed names_note)) (pattern_row patterns)) else noted (counts_notes rules ++ names_notes patterns names) (struct_of setting props others rules)).row
    second true = pattern_apart patterns
    second false = tt

    by : (b : Bool) → RowIsApart (if b then noted (counts_notes rules) (map_of others names) else if no_property props && is_empty rules.required && not (is_given names) && is_shut others && are_alike patterns then asking (pattern_names patterns) (noted (counts_notes rules ++ note_if (not (is_given others)) (here narrowed names_note)) (pattern_row patterns)) else noted (counts_notes rules ++ names_notes patterns names) (struct_of setting props others rules)).row
    by true = map_apart others names
    by false = second (no_property props && is_empty rules.required && not (is_given names) && is_shut others && are_alike patterns)

module _ (r : Relations) (d : Document) (p : Plain) (ss : Same) (ls : Lists) (ns : Named) where
  -- ---- scalars

  text_apart : (o : Option Format) → RowIsApart (text_finding p o).row
  text_apart (Some f) = tt
  text_apart None = ruled_within (wanted_of p) p.texts

  enumerated_apart : (vs : List Value) → RowIsApart (enumerated r p vs).row
  enumerated_apart vs = by (list_all (λ v. is_text v || is_null v) vs)
    where
      by : (b : Bool) → RowIsApart (if b then noted (note_if (list_any is_null vs) (here widened null_note) ++ note_if (is_some (given_format p)) (here widened string_note)) (leaf_row (listed_entry (list_any is_null vs) (wanted_of p) (kept_texts r p.texts vs))) else plainly (refused_row bad_value)).row
      by true = listed_within (list_any is_null vs) (wanted_of p) (kept_texts r p.texts vs) (distinct_differ (filter (λ s. if_given (texts_agree r s) p.texts) (texts_in vs)))
      by false = tt

  boolean_apart : (o : Option (List Value)) → RowIsApart (boolean_finding o).row
  boolean_apart None = tt
  boolean_apart (Some vs) = tt

  constant_apart : (o : Option (List ℕ)) → RowIsApart (constant_finding r p o).row
  constant_apart None = tt
  constant_apart (Some t) = enumerated_apart (constant_list t p.enum_values)

  listed_apart : (vs : List Value) → RowIsApart (listed_alone p vs).row
  listed_apart vs = a (list_any is_owner vs) refl
    where
      f : list_any is_owner vs ≡ false → (b : Bool) → RowIsApart (if b then plainly (ruled_row (made (alone (of_type Integer no_keyword))) (allow_rule vs)) else plainly (refused_row mixed_enum)).row
      f o true = all_scalars vs o
      f o false = tt

      e : list_any is_owner vs ≡ false → (b : Bool) → RowIsApart (if b then boolean_finding (Some vs) else if list_all is_number vs then plainly (ruled_row (made (alone (of_type Integer no_keyword))) (allow_rule vs)) else plainly (refused_row mixed_enum)).row
      e o true = tt
      e o false = f o (list_all is_number vs)

      c : list_any is_owner vs ≡ false → (b : Bool) → RowIsApart (if b then plainly (leaf_row (texts_entry (wanted_of p) (distinct (texts_in vs)))) else if list_all is_boolean vs then boolean_finding (Some vs) else if list_all is_number vs then plainly (ruled_row (made (alone (of_type Integer no_keyword))) (allow_rule vs)) else plainly (refused_row mixed_enum)).row
      c o true = texts_within (wanted_of p) (distinct (texts_in vs)) (distinct_differ (texts_in vs))
      c o false = e o (list_all is_boolean vs)

      g : list_any is_owner vs ≡ false → (b : Bool) → RowIsApart (if b then plainly (option_row (made (alone (without_nulls vs p)))) else if list_all is_text vs then plainly (leaf_row (texts_entry (wanted_of p) (distinct (texts_in vs)))) else if list_all is_boolean vs then boolean_finding (Some vs) else if list_all is_number vs then plainly (ruled_row (made (alone (of_type Integer no_keyword))) (allow_rule vs)) else plainly (refused_row mixed_enum)).row
      g o true = tt
      g o false = c o (list_all is_text vs)

      unit : (b : Bool) → Within (if b then unit_entry else never_entry (wanted_of p))
      unit true = tt
      unit false = never_within (wanted_of p)

      k : list_any is_owner vs ≡ false → (b : Bool) → RowIsApart (if b then plainly (leaf_row (if list_any is_null vs then unit_entry else never_entry (wanted_of p))) else if list_any is_null vs then plainly (option_row (made (alone (without_nulls vs p)))) else if list_all is_text vs then plainly (leaf_row (texts_entry (wanted_of p) (distinct (texts_in vs)))) else if list_all is_boolean vs then boolean_finding (Some vs) else if list_all is_number vs then plainly (ruled_row (made (alone (of_type Integer no_keyword))) (allow_rule vs)) else plainly (refused_row mixed_enum)).row
      k o true = unit (list_any is_null vs)
      k o false = g o (list_any is_null vs)

      a : (b : Bool) → list_any is_owner vs ≡ b → RowIsApart (if b then plainly (refused_row nested_enum) else if list_all is_null vs then plainly (leaf_row (if list_any is_null vs then unit_entry else never_entry (wanted_of p))) else if list_any is_null vs then plainly (option_row (made (alone (without_nulls vs p)))) else if list_all is_text vs then plainly (leaf_row (texts_entry (wanted_of p) (distinct (texts_in vs)))) else if list_all is_boolean vs then boolean_finding (Some vs) else if list_all is_number vs then plainly (ruled_row (made (alone (of_type Integer no_keyword))) (allow_rule vs)) else plainly (refused_row mixed_enum)).row
      a true o = tt
      a false o = k o (list_all is_null vs)

  -- ---- other schemas of the same value

  nullable_apart : (o : Option InstanceType) → RowIsApart (nullable p ss ls ns o)
  nullable_apart None = tt
  nullable_apart (Some k) = by (lists_only_nulls p.enum_values || same_type Null k)
    where
      by : (b : Bool) → RowIsApart (if b then leaf_row unit_entry else option_row (made (object (beside_null (of_type k p)) ss ls ns)))
      by true = tt
      by false = tt

  reference_apart : (o : Option (List ℕ)) → RowIsApart (reference_row o)
  reference_apart None = tt
  reference_apart (Some q) = by (target_of q)
    where
      by : (u : Option Target) → RowIsApart (row_of_target u)
      by None = tt
      by (Some t) = tt

  allowed_apart : (q : Part) (vs : List Value) → RowIsApart (allowed_row q vs)
  allowed_apart q vs = by (list_any is_owner vs) refl
    where
      by : (b : Bool) → list_any is_owner vs ≡ b → RowIsApart (if b then refused_row nested_enum else ruled_row q (allow_rule vs))
      by true o = tt
      by false o = all_scalars vs o

  typed_apart : (o : Option InstanceType) → RowIsApart (with_type p ss ls ns o)
  typed_apart None = tt
  typed_apart (Some k) = tt

  -- ---- one of, any of, all of, not

  one_of_apart : (n : List ℕ) (ms : List Member) → RowIsApart (one_of_finding d n ms).row
  one_of_apart n ms = optional (option_shape ms)
    where
      only : (x : Option Member) → RowIsApart (one_of_only d ms x).row
      only (Some m) = tt
      only None = tt

      internal : (x : Option TaggedShape) → internal_shape d.setting ms ≡ x → RowIsApart (one_of_internal d ms x).row
      internal (Some t) e = internal_differ d.setting ms t e
      internal None e = only (only_member ms)

      adjacent : (x : Option TaggedShape) → adjacent_shape ms ≡ x → RowIsApart (one_of_adjacent d ms x).row
      adjacent (Some t) e = adjacent_differ ms t e
      adjacent None e = internal (internal_shape d.setting ms) refl

      external : (x : Option (List VariantRow)) → external_members ms ≡ x → RowIsApart (one_of_external d ms x).row
      external (Some ws) e = external_differ ms ws e
      external None e = adjacent (adjacent_shape ms) refl

      optional : (x : Option Member) → RowIsApart (one_of_option d ms x).row
      optional (Some m) = tt
      optional None = external (external_members ms) refl

  any_of_apart : (n : List ℕ) (ms : List Member) → RowIsApart (any_of_finding d n ms).row
  any_of_apart n [] = never_within n
  any_of_apart n (m ∷ ms) = by (option_shape (m ∷ ms))
    where
      apart : (b : Bool) → RowIsApart (if b then one_of_finding d n (m ∷ ms) else plainly (untagged_row (m ∷ ms))).row
      apart true = one_of_apart n (m ∷ ms)
      apart false = tt

      by : (x : Option Member) → RowIsApart (any_of_others d n (m ∷ ms) x).row
      by None = apart (exclusive d (schemas_of (m ∷ ms)))
      by (Some k) = tt

  all_of_apart : (ms : List Member) → RowIsApart (all_of_finding ms).row
  all_of_apart [] = tt
  all_of_apart (m ∷ []) = tt
  all_of_apart (m ∷ k ∷ ms) = tt

  deny_apart : (q : Part) (vs : List Value) → RowIsApart (deny q vs).row
  deny_apart q vs = by (list_any is_owner vs) refl
    where
      by : (b : Bool) → list_any is_owner vs ≡ b → RowIsApart (if b then plainly (refused_row nested_enum) else noted (here narrowed not_note ∷ []) (ruled_row q (deny_rule vs))).row
      by true o = tt
      by false o = all_scalars vs o

  denied_apart : (o : Option InstanceType) (vs : List Value) → RowIsApart (denied o vs).row
  denied_apart None vs = tt
  denied_apart (Some k) vs = deny_apart (made (alone (of_type k no_keyword))) vs

  not_apart : (n : List ℕ) (u : Schema) → RowIsApart (not_finding n u).row
  not_apart n (boolean true) = never_within n
  not_apart n (boolean false) = tt
  not_apart n (object q sq lq nq) = a (is_none q.types && no_others q lq nq && without_same sq)
    where
      c : (b : Bool) → RowIsApart (if b then denied (type_of_listed (listed q.enum_values)) (listed q.enum_values) else plainly (refused_row bad_not)).row
      c true = denied_apart (type_of_listed (listed q.enum_values)) (listed q.enum_values)
      c false = tt

      g : (b : Bool) → RowIsApart (if b then deny (under_not (object (less_enum q) sq lq nq)) (listed q.enum_values) else if is_none q.types && is_some q.enum_values && no_others (less_enum q) lq nq && without_same sq then denied (type_of_listed (listed q.enum_values)) (listed q.enum_values) else plainly (refused_row bad_not)).row
      g true = deny_apart (under_not (object (less_enum q) sq lq nq)) (listed q.enum_values)
      g false = c (is_none q.types && is_some q.enum_values && no_others (less_enum q) lq nq && without_same sq)

      a : (b : Bool) → RowIsApart (if b then plainly (leaf_row (never_entry n)) else if has_one_type q.types && is_some q.enum_values then deny (under_not (object (less_enum q) sq lq nq)) (listed q.enum_values) else if is_none q.types && is_some q.enum_values && no_others (less_enum q) lq nq && without_same sq then denied (type_of_listed (listed q.enum_values)) (listed q.enum_values) else plainly (refused_row bad_not)).row
      a true = never_within n
      a false = g (has_one_type q.types && is_some q.enum_values)

  subschemas_apart : (n : List ℕ) (x : Same) → RowIsApart (finding_or (subschema_finding d n x)).row
  subschemas_apart n no_same = tt
  subschemas_apart n (same_value (the_list us) no_list no_list no_schema false) = all_of_apart (members_from (codes "allOf") 0 us)
  subschemas_apart n (same_value no_list (the_list us) no_list no_schema false) = any_of_apart n (members_from (codes "anyOf") 0 us)
  subschemas_apart n (same_value no_list no_list (the_list us) no_schema false) = one_of_apart n (members_from (codes "oneOf") 0 us)
  subschemas_apart n (same_value no_list no_list no_list (the_schema u) false) = not_apart n u
  subschemas_apart n _ = tt

  -- ---- the table

  row_apart : RowIsApart (first_line (lines r d p ss ls ns)).row
  row_apart = first_apart (lines r d p ss ls ns) (
    tt,
    (nullable_apart (type_beside_null p.types), (text_apart (given_format p), (text_apart (given_format p), (enumerated_apart (listed p.enum_values), (constant_apart (constant_of p), (tt, (boolean_apart p.enum_values, (object_apart d.setting ns, (object_apart d.setting ns, (array_apart ls, (array_apart ls, (tt, (tt, (reference_apart p.reference, (reference_apart p.reference, (tt, (allowed_apart (made (object (less_enum p) ss ls ns)) (listed p.enum_values), (listed_apart (listed p.enum_values), (subschemas_apart (wanted_of p) ss, (tt, (tt, (tt, (typed_apart (only_type p.types), (tt, tt)))))))))))))))))))))))),
  )

pub finding_apart : (r : Relations) (d : Document) (s : Schema) → RowIsApart (row_of r d s)
finding_apart r d (boolean true) = tt
finding_apart r d (boolean false) = never_within []
finding_apart r d (object p ss ls ns) = row_apart r d p ss ls ns
