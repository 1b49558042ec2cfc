-- What each row of the table asks of the same value, and the names of the fields that it makes.
use Rattle.schema_defs.specs.declared.Setting.TheVariants.{Strict}
use Rattle.std.proofs.Common.{◌≡◌, ◌⊎◌, ℕ, suc, List, [], ◌∷◌, ◌++◌, map, filter, flat_map, Bool, true, false, ◌&&◌, ◌||◌, not, Option, Some, None, is_none, is_some, option_map, option_and_then, inl, inr, refl, sym, ap, ◌∙◌, subst, codes, bytes_eq}
use Rattle.std.specs.Prelude.{if◌then◌else◌, length, nat_le}
use Rattle.std.specs.List.{list_all, list_any}
use Rattle.json_value.specs.Value.{Value}
use Rattle.schema_defs.specs.declared.InstanceType.{InstanceType}
use Rattle.schema_defs.specs.declared.InstanceType.TheVariants.{Null, Boolean, Object, Array, Number, Text, Integer}
use Rattle.schema_defs.specs.declared.Format.{Format}
use Rattle.schema_defs.specs.Location.{Step, Location, place}
use Rattle.schema_defs.specs.Texts.{Relations}
use Rattle.schema_defs.specs.Schema.{Texts, Plain, Schema, boolean, object, Same, no_same, same_value, Lists, no_lists, lists, Named, no_named, named, MaybeSchema, no_schema, the_schema, no_list, the_list, Schemas, no_more, schema, Places, no_items, each_item, by_place, Properties, no_properties, property, ListRules, MemberRules, Document}
use Rattle.schema_defs.specs.Layer.{is_given}
use Rattle.model_defs.specs.Model.{TagModel, external_tag, internal_tag, adjacent_tag, untagged, allow_rule, deny_rule}
use Rattle.model_defs.specs.Layer.{is_null, is_text, is_boolean}
use Rattle.entry_defs.specs.Entry.{Target, Entry, reference, unit_entry}
use Rattle.entry_defs.specs.Sound.{Each, EachVariant}
use Rattle.entry_defs.specs.Ends.{Asked, AskedByShape}
use Rattle.convert_defs.specs.Row.{names_note, Part, made, FieldRow, VariantBody, unit_body, part_body, fields_body, VariantRow, Row, leaf_row, as_it_is_row, option_row, ruled_row, vec_row, set_row, map_row, struct_row, enum_row, refused_row, plainly, asking, bad_array, bad_value, mixed_enum, names as names_cause, nested_enum, noted, here, narrowed, widened, null_note, not_note, bad_not, string_note}
use Rattle.convert_defs.specs.Standing.{of_type, less_enum, alone, no_keyword}
use Rattle.enum_defs.specs.Words.{same_type, has_type, without_same, without_lists, is_bare, is_name, all_some, names_of}
use Rattle.convert_defs.specs.Scalars.{texts_entry, nullable_texts, listed_entry, unit_variants, never_entry, ruled_text, text_finding, given_format, wanted_of, enumerated, kept_texts, boolean_finding, listed_alone, is_owner, is_number, distinct, texts_in, without_nulls}
use Rattle.convert_defs.specs.Owners.{is_shut, are_alike, pattern_row, pattern_names, array_finding, object_finding, sized_finding, fixed_size, fixed_row, open_list, is_true, is_by_place, no_property, is_empty, is_false, names_texts, map_of, struct_of, each_part, property_fields, other_part, name_part, counts_notes, names_notes, list_notes}
use Rattle.convert_defs.proofs.PlacedShapes.{external_case, text_case, listed_texts, unit_rows, one_property, object_shape, ObjectShape, shape_of_named, if_distinct, are_distinct, adjacent_variant, internal_variant, branch_fields, lone_property, property_row, case_or}
use Rattle.convert_defs.specs.Shapes.{Member, schemas_of, external_members, members_from, option_member as option_shape, adjacent_members as adjacent_shape, internal_members as internal_shape, TaggedShape, body_of_field, body_of_fields, less_property, placed_field}
use Rattle.enum_defs.specs.Shapes.{is_null_schema, the_only as only_one, closed_by as is_closed}
use Rattle.convert_defs.specs.Apart.{differ, names_apart, is_apart, all_apart, branches_apart}
use Rattle.enum_defs.specs.Exclusive.{exclusive}
use Rattle.convert_defs.specs.Table.{Line, lines, first_line, nullable, type_beside_null, lists_only_nulls, reference_row, row_of_target, target_of, allowed_row, listed, with_type, only_type, type_variant, type_among, of_kinds, variant_order, subschema_finding, finding_or, all_of_finding, any_of_finding, any_of_others, one_of_finding, not_finding, deny, under_not, denied, type_of_listed, has_one_type, no_others, member_part, untagged_row, untagged_variant, only_member, constant_of, constant_finding, constant_list, beside_null, lone_part, row_of, one_of_only, one_of_internal, one_of_adjacent, one_of_external, one_of_option}
use Rattle.convert_defs.proofs.Apart.{names_in, names_outside, struct-apart, of-properties}
use Rattle.convert_defs.specs.IntegerRow.{note_if}
use Rattle.convert_defs.specs.Laws.{HasNamesApart}
use Rattle.convert_defs.proofs.Views.{schema_of}
use Rattle.convert_defs.proofs.Bare.{and_left, and_right, none-some, some-same}
use Rattle.convert_defs.proofs.Nullable.{option-refs}
use Rattle.schema_defs.proofs.Spare.{Refs, RefsSame, RefsAll}
use Rattle.convert_defs.proofs.SameShapes.{whole, external-found, internal-found, adjacent-found}

-- an entry without references
abbrev pub Quiet : Entry → Type 0
Quiet e = Each (λ n h. AskedByShape (λ q. ⊥) h) (λ q. ⊥) e × Asked (λ q. ⊥) e

abbrev pub own : Schema → Option (List ℕ)
own (boolean b) = None
own (object p ss ls ns) = p.reference

module _ (P : List ℕ → Type 0) where
  -- what is known of the references of the schema is known of those of the part
  abbrev pub Inherits : Schema → Part → Type 0
  Inherits s p = Refs P s → Refs P (schema_of p)

  abbrev pub BodyFine : Schema → TagModel → VariantBody → Type 0
  BodyFine s tag unit_body = Unit {0}
  BodyFine s untagged (part_body p) = Inherits s p
  BodyFine s _ (part_body p) = Unit {0}
  BodyFine s tag (fields_body fs) = differ (names_in fs) ≡ true

  abbrev pub BodiesFine : Schema → TagModel → List VariantRow → Type 0
  BodiesFine s tag [] = Unit {0}
  BodiesFine s tag (w ∷ ws) = BodyFine s tag w.body × BodiesFine s tag ws

  abbrev pub LeafFine : Schema → Entry → Type 0
  LeafFine s e = Quiet e ⊎ ((t : Target) × (q : List ℕ) × (e ≡ reference t) × (target_of q ≡ Some t) × (own s ≡ Some q))

  abbrev pub Fine : Schema → Row → Type 0
  Fine s (leaf_row e) = LeafFine s e
  Fine s (as_it_is_row p) = Inherits s p
  Fine s (option_row p) = Inherits s p
  Fine s (ruled_row p u) = Inherits s p
  Fine s (struct_row c fs o) = differ (names_in fs ++ names_outside o) ≡ true
  Fine s (enum_row tag c ws) = BodiesFine s tag ws
  Fine s _ = Unit {0}

  abbrev AllFine : Schema → List Line → Type 0
  AllFine s [] = Unit {0}
  AllFine s (l ∷ ls) = (l.fits ≡ true → Fine s l.finding.row) × AllFine s ls

  first-fine : (s : Schema) (ls : List Line) → AllFine s ls → Fine s (first_line ls).row
  first-fine s [] h = tt
  first-fine s (l ∷ ls) h = by l.fits h.0 (first-fine s ls h.1)
    where
      by : (b : Bool) → (b ≡ true → Fine s l.finding.row) → Fine s (first_line ls).row → Fine s (if b then l.finding else first_line ls).row
      by true f g = f refl
      by false f g = g

  -- ---- leaves

  units-quiet : (ts : List (List ℕ)) → EachVariant (λ n h. AskedByShape (λ q. ⊥) h) (λ q. ⊥) (unit_variants ts)
  units-quiet [] = tt
  units-quiet (t ∷ ts) = (tt, units-quiet ts)

  never-quiet : (n : List ℕ) → Quiet (never_entry n)
  never-quiet n = ((tt, tt), tt)

  texts-quiet : (n : List ℕ) (ts : List (List ℕ)) → Quiet (texts_entry n ts)
  texts-quiet n [] = ((tt, tt), tt)
  texts-quiet n (t ∷ ts) = ((tt, units-quiet (t ∷ ts)), tt)

  nullable-quiet : (n : List ℕ) (ts : List (List ℕ)) → Quiet (nullable_texts n ts)
  nullable-quiet n [] = (tt, tt)
  nullable-quiet n (t ∷ ts) = texts-quiet n (t ∷ ts)

  listed-quiet : (b : Bool) (n : List ℕ) (ts : List (List ℕ)) → Quiet (listed_entry b n ts)
  listed-quiet true n ts = nullable-quiet n ts
  listed-quiet false n ts = texts-quiet n ts

  ruled-quiet : (n : List ℕ) (o : Option Texts) → Quiet (ruled_text n o)
  ruled-quiet n None = (tt, tt)
  ruled-quiet n (Some c) = ((tt, tt), tt)

  module _ (r : Relations) (d : Document) (p : Plain) (ss : Same) (ls : Lists) (ns : Named) where
    abbrev s : Schema
    s = object p ss ls ns

    -- ---- scalars

    text-fine : (o : Option Format) → Fine s (text_finding p o).row
    text-fine (Some f) = inl (tt, tt)
    text-fine None = inl (ruled-quiet (wanted_of p) p.texts)

    enumerated-fine : (vs : List Value) → Fine s (enumerated r p vs).row
    enumerated-fine vs = by (list_all (λ v. is_text v || is_null v) vs)
      where
        by : (b : Bool) → Fine s (if b then noted (note_if (list_any is_null vs) (here widened null_note) ++ note_if (is_some (given_format p)) (here widened string_note)) (leaf_row (listed_entry (list_any is_null vs) (wanted_of p) (kept_texts r p.texts vs))) else plainly (refused_row bad_value)).row
        by true = inl (listed-quiet (list_any is_null vs) (wanted_of p) (kept_texts r p.texts vs))
        by false = tt

    boolean-fine : (o : Option (List Value)) → Fine s (boolean_finding o).row
    boolean-fine None = inl (tt, tt)
    boolean-fine (Some vs) = inl (tt, tt)

    constant-fine : (o : Option (List ℕ)) → Fine s (constant_finding r p o).row
    constant-fine None = tt
    constant-fine (Some t) = enumerated-fine (constant_list t p.enum_values)

    listed-fine : (vs : List Value) → Fine s (listed_alone p vs).row
    listed-fine vs = a (list_any is_owner vs)
      where
        f : (b : Bool) → Fine s (if b then plainly (ruled_row (made (alone (of_type Integer no_keyword))) (allow_rule vs)) else plainly (refused_row mixed_enum)).row
        f true = λ h. (tt, tt)
        f false = tt

        e : (b : Bool) → Fine s (if b then boolean_finding (Some vs) else if list_all is_number vs then plainly (ruled_row (made (alone (of_type Integer no_keyword))) (allow_rule vs)) else plainly (refused_row mixed_enum)).row
        e true = inl (tt, tt)
        e false = f (list_all is_number vs)

        c : (b : Bool) → Fine s (if b then plainly (leaf_row (texts_entry (wanted_of p) (distinct (texts_in vs)))) else if list_all is_boolean vs then boolean_finding (Some vs) else if list_all is_number vs then plainly (ruled_row (made (alone (of_type Integer no_keyword))) (allow_rule vs)) else plainly (refused_row mixed_enum)).row
        c true = inl (texts-quiet (wanted_of p) (distinct (texts_in vs)))
        c false = e (list_all is_boolean vs)

        g : (b : Bool) → Fine s (if b then plainly (option_row (made (alone (without_nulls vs p)))) else if list_all is_text vs then plainly (leaf_row (texts_entry (wanted_of p) (distinct (texts_in vs)))) else if list_all is_boolean vs then boolean_finding (Some vs) else if list_all is_number vs then plainly (ruled_row (made (alone (of_type Integer no_keyword))) (allow_rule vs)) else plainly (refused_row mixed_enum)).row
        g true = λ h. (h.0, tt)
        g false = c (list_all is_text vs)

        unit : (b : Bool) → LeafFine s (if b then unit_entry else never_entry (wanted_of p))
        unit true = inl (tt, tt)
        unit false = inl (never-quiet (wanted_of p))

        k : (b : Bool) → Fine s (if b then plainly (leaf_row (if list_any is_null vs then unit_entry else never_entry (wanted_of p))) else if list_any is_null vs then plainly (option_row (made (alone (without_nulls vs p)))) else if list_all is_text vs then plainly (leaf_row (texts_entry (wanted_of p) (distinct (texts_in vs)))) else if list_all is_boolean vs then boolean_finding (Some vs) else if list_all is_number vs then plainly (ruled_row (made (alone (of_type Integer no_keyword))) (allow_rule vs)) else plainly (refused_row mixed_enum)).row
        k true = unit (list_any is_null vs)
        k false = g (list_any is_null vs)

        a : (b : Bool) → Fine s (if b then plainly (refused_row nested_enum) else if list_all is_null vs then plainly (leaf_row (if list_any is_null vs then unit_entry else never_entry (wanted_of p))) else if list_any is_null vs then plainly (option_row (made (alone (without_nulls vs p)))) else if list_all is_text vs then plainly (leaf_row (texts_entry (wanted_of p) (distinct (texts_in vs)))) else if list_all is_boolean vs then boolean_finding (Some vs) else if list_all is_number vs then plainly (ruled_row (made (alone (of_type Integer no_keyword))) (allow_rule vs)) else plainly (refused_row mixed_enum)).row
        a true = tt
        a false = k (list_all is_null vs)

    -- ---- owners

    names-fine : (props : Properties) (others : MaybeSchema) (rules : MemberRules) → differ (names_of props) ≡ true → differ rules.required ≡ true → Fine s (struct_of d.setting props others rules)
    names-fine props others rules h g = struct-apart d.setting rules.required props others h g

    map-fine : (others names : MaybeSchema) → Fine s (map_of others names)
    map-fine others names = by (names_texts names)
      where
        by : (b : Bool) → Fine s (if b then map_row (name_part names) (other_part others) else refused_row names_cause)
        by true = tt
        by false = tt

    object-fine : (ms : Named) → names_apart ms ≡ true → Fine s (object_finding d.setting ms).row
    object-fine no_named h = tt
    object-fine (named props patterns others names rules) h = by (no_property props && is_empty rules.required && no_property patterns && not (is_false others))
      where
        pattern-fine : (qs : Properties) → Fine s (pattern_row qs)
        pattern-fine no_properties = tt
        pattern-fine (property k u us) = tt

        second : (b : Bool) → Fine s (if b then asking (pattern_names patterns) (noted (counts_notes rules ++ note_if (not (is_given others)) (here narrowed names_note)) (pattern_row patterns)) else noted (counts_notes rules ++ names_notes patterns names) (struct_of d.setting props others rules)).row
        second true = pattern-fine patterns
        second false = names-fine props others rules (and_left _ _ h) (and_right (differ (names_of props)) _ h)

        by : (b : Bool) → Fine s (if b then noted (counts_notes rules) (map_of others names) else if no_property props && is_empty rules.required && not (is_given names) && is_shut others && are_alike patterns then asking (pattern_names patterns) (noted (counts_notes rules ++ note_if (not (is_given others)) (here narrowed names_note)) (pattern_row patterns)) else noted (counts_notes rules ++ names_notes patterns names) (struct_of d.setting props others rules)).row
        by true = map-fine others names
        by false = second (no_property props && is_empty rules.required && not (is_given names) && is_shut others && are_alike patterns)

    fixed-fine : (n : ℕ) (places : Places) (others : MaybeSchema) → Fine s (fixed_row n places others)
    fixed-fine n no_items others = tt
    fixed-fine n (each_item u) others = tt
    fixed-fine n (by_place us) others = tt

    open-fine : (rules : ListRules) (q : Part) → Fine s (open_list rules q)
    open-fine rules q = by (is_true rules.unique_items)
      where
        by : (b : Bool) → Fine s (if b then set_row q else vec_row q)
        by true = tt
        by false = tt

    sized-fine : (places : Places) (others contains : MaybeSchema) (rules : ListRules) (o : Option ℕ) → Fine s (sized_finding places others contains rules o).row
    sized-fine places others contains rules (Some n) = fixed-fine n places others
    sized-fine places others contains rules None = by (is_by_place places || is_given contains)
      where
        by : (b : Bool) → Fine s (if b then plainly (refused_row bad_array) else noted (list_notes rules) (open_list rules (each_part places))).row
        by true = tt
        by false = open-fine rules (each_part places)

    array-fine : (ms : Lists) → Fine s (array_finding ms).row
    array-fine no_lists = tt
    array-fine (lists places others contains rules) = sized-fine places others contains rules (fixed_size rules contains)

    -- ---- other schemas of the same value

    nullable-fine : (o : Option InstanceType) → Fine s (nullable p ss ls ns o)
    nullable-fine None = tt
    nullable-fine (Some k) = by (lists_only_nulls p.enum_values || same_type Null k)
      where
        by : (b : Bool) → Fine s (if b then leaf_row unit_entry else option_row (made (object (beside_null (of_type k p)) ss ls ns)))
        by true = inl (tt, tt)
        by false = λ h. h

    reference-fine : (o : Option (List ℕ)) → p.reference ≡ o → Fine s (reference_row o)
    reference-fine None e = tt
    reference-fine (Some q) e = by (target_of q) refl
      where
        by : (u : Option Target) → target_of q ≡ u → Fine s (row_of_target u)
        by None f = tt
        by (Some t) f = inr (t, q, refl, f, e)

    allowed-fine : (vs : List Value) → Fine s (allowed_row (made (object (less_enum p) ss ls ns)) vs)
    allowed-fine vs = by (list_any is_owner vs)
      where
        by : (b : Bool) → Fine s (if b then refused_row nested_enum else ruled_row (made (object (less_enum p) ss ls ns)) (allow_rule vs))
        by true = tt
        by false = λ h. h

    typed-fine : (o : Option InstanceType) → Fine s (with_type p ss ls ns o)
    typed-fine None = tt
    typed-fine (Some k) = λ h. h

    lone-refs : (k : InstanceType) → Refs P (of_kinds p ls ns k)
    lone-refs Null = (tt, tt)
    lone-refs Boolean = (tt, tt)
    lone-refs Object = (tt, tt)
    lone-refs Array = (tt, tt)
    lone-refs Number = (tt, tt)
    lone-refs Text = (tt, tt)
    lone-refs Integer = (tt, tt)

    kinds-fine : (ks : List InstanceType) → BodiesFine s untagged (map (type_variant p ls ns) ks)
    kinds-fine [] = tt
    kinds-fine (k ∷ ks) = ((λ h. lone-refs k), kinds-fine ks)

    -- ---- members of anyOf and oneOf

    untagged-fine : (k : Step) (i : ℕ) (us : Schemas) → (Refs P s → RefsAll P us) → BodiesFine s untagged (map untagged_variant (members_from k i us))
    untagged-fine k i no_more f = tt
    untagged-fine k i (schema u us) f = ((λ h. (f h).0), untagged-fine k (suc i) us (λ h. (f h).1))

    option-fine : (k : Step) (us : Schemas) (m : Member) → option_shape (members_from k 0 us) ≡ Some m → (Refs P s → RefsAll P us) → Inherits s (member_part m)
    option-fine k us m e f h = option-refs P k 0 us m (only e) (f h)
      where
        only : option_shape (members_from k 0 us) ≡ Some m → only_one (filter (λ n. not (is_null_schema n.1)) (members_from k 0 us)) ≡ Some m
        only e = by (nat_le 2 (length (members_from k 0 us))) e
          where
            by : (b : Bool) → (if b then only_one (filter (λ n. not (is_null_schema n.1)) (members_from k 0 us)) else None) ≡ Some m
                → only_one (filter (λ n. not (is_null_schema n.1)) (members_from k 0 us)) ≡ Some m
            by true g = g
            by false g = none-some m g

    -- tagged enums: units, parts and fields whose names differ

    abbrev tagged_fine : TagModel → List VariantRow → Type 0
    tagged_fine tag ws = BodiesFine s tag ws

    units-fine : (ts : List (List ℕ)) → BodiesFine s external_tag (unit_rows ts)
    units-fine [] = tt
    units-fine (t ∷ ts) = (tt, units-fine ts)

    both-fine : (tag : TagModel) (xs ys : List VariantRow) → BodiesFine s tag xs → BodiesFine s tag ys → BodiesFine s tag (xs ++ ys)
    both-fine tag [] ys h g = g
    both-fine tag (x ∷ xs) ys h g = (h.0, both-fine tag xs ys h.1 g)

    one-fine : (l : Location) (req : List (List ℕ)) (qs : Properties) (ws : List VariantRow) → lone_property l req qs ≡ Some ws → BodiesFine s external_tag ws
    one-fine l req no_properties ws h = none-some ws h
    one-fine l req (property k u no_properties) ws h = chosen (is_name k req) h
      where
        chosen : (b : Bool) → (if b then Some (property_row l k u ∷ []) else None) ≡ Some ws → BodiesFine s external_tag ws
        chosen true g = subst (BodiesFine s external_tag) (some-same (property_row l k u ∷ []) ws g) (tt, tt)
        chosen false g = none-some ws g
    one-fine l req (property k u (property m t qs)) ws h = none-some ws h

    external-one : (m : Member) (ws : List VariantRow) → external_case m ≡ Some ws → BodiesFine s external_tag ws
    external-one (l, u) ws e = by (text_case u) refl e
      where
        shaped : (o : Option ObjectShape) → option_and_then one_property o ≡ Some ws → BodiesFine s external_tag ws
        shaped None h = none-some ws h
        shaped (Some o) h = one-fine o.place o.required_names o.props ws h

        texts : (o : Option (List (List ℕ))) (us : List VariantRow) → option_map unit_rows o ≡ Some us → BodiesFine s external_tag us
        texts None us h = none-some us h
        texts (Some ts) us h = subst (BodiesFine s external_tag) (some-same (unit_rows ts) us h) (units-fine ts)

        case : (u : Schema) (us : List VariantRow) → text_case u ≡ Some us → BodiesFine s external_tag us
        case (boolean b) us h = none-some us h
        case (object q sq lq nq) us h = tested ((is_none q.types || has_type Text q.types) && is_none q.format && is_none q.reference && without_same sq) h
          where
            tested : (b : Bool) → (if b then option_map unit_rows (listed_texts q.const_value q.enum_values) else None) ≡ Some us → BodiesFine s external_tag us
            tested true g = texts (listed_texts q.const_value q.enum_values) us g
            tested false g = none-some us g

        by : (o : Option (List VariantRow)) → text_case u ≡ o → case_or o (object_shape (l, u)) ≡ Some ws → BodiesFine s external_tag ws
        by (Some vs) f h = subst (BodiesFine s external_tag) (some-same vs ws h) (case u vs f)
        by None f h = shaped (object_shape (l, u)) h

    external-all : (ms : List Member) (wss : List (List VariantRow)) → all_some external_case ms ≡ Some wss → BodiesFine s external_tag (flat_map (λ ws. ws) wss)
    external-all [] wss e = subst (λ x. BodiesFine s external_tag (flat_map (λ ws. ws) x)) (some-same [] wss e) tt
    external-all (m ∷ ms) wss e = by (external_case m) refl (all_some external_case ms) refl e (external-all ms)
      where
        by : (x : Option (List VariantRow)) → external_case m ≡ x → (y : Option (List (List VariantRow))) → all_some external_case ms ≡ y → option_and_then (λ y. option_map (λ ys. y ∷ ys) (all_some external_case ms)) x ≡ Some wss
            → ((us : List (List VariantRow)) → all_some external_case ms ≡ Some us → BodiesFine s external_tag (flat_map (λ ws. ws) us)) → BodiesFine s external_tag (flat_map (λ ws. ws) wss)
        by None f y g h rec = none-some wss h
        by (Some ws) f None g h rec = none-some wss (ap (option_map (λ ys. ws ∷ ys)) (sym g) ∙ h)
        by (Some ws) f (Some us) g h rec =
            subst (λ x. BodiesFine s external_tag (flat_map (λ ws. ws) x)) (some-same (ws ∷ us) wss (ap (option_map (λ ys. ws ∷ ys)) (sym g) ∙ h))
            (both-fine external_tag ws (flat_map (λ ws. ws) us) (external-one m ws f) (rec us g))

    external-fine : (ms : List Member) (ws : List VariantRow) → external_members ms ≡ Some ws → BodiesFine s external_tag ws
    external-fine ms ws e = by (all_some external_case ms) refl (external-found ms ws e)
      where
        distinct_ones : (us : List VariantRow) → if_distinct us ≡ Some ws → BodiesFine s external_tag us → BodiesFine s external_tag ws
        distinct_ones us h g = tested (are_distinct (map (λ w. w.name) us)) h
          where
            tested : (b : Bool) → (if b then Some us else None) ≡ Some ws → BodiesFine s external_tag ws
            tested true k = subst (BodiesFine s external_tag) (some-same us ws k) g
            tested false k = none-some ws k

        by : (x : Option (List (List VariantRow))) → all_some external_case ms ≡ x → option_and_then (λ wss. if_distinct (flat_map (λ ws. ws) wss)) x ≡ Some ws → BodiesFine s external_tag ws
        by None f h = none-some ws h
        by (Some wss) f h = distinct_ones (flat_map (λ ws. ws) wss) h (external-all ms wss f)

    -- object shapes with names that differ

    abbrev ShapeApart : ObjectShape → Type 0
    ShapeApart o = differ (names_of o.props) ≡ true

    named-shape : (l : Location) (ms : Named) (o : ObjectShape) → names_apart ms ≡ true → shape_of_named l ms ≡ Some o → ShapeApart o
    named-shape l no_named o a e = subst ShapeApart (some-same _ o e) refl
    named-shape l (named props no_properties others no_schema rules) o a e = by (is_none rules.max_properties && is_none rules.min_properties && list_all (λ n. is_name n (names_of props)) rules.required) e
      where
        closed : (c : Option Bool) → option_map (λ c. record { place = l; closed = c; props = props; required_names = rules.required }) c ≡ Some o → ShapeApart o
        closed None h = none-some o h
        closed (Some c) h = subst ShapeApart (some-same _ o h) (and_left _ _ a)

        by : (b : Bool) → (if b then option_map (λ c. record { place = l; closed = c; props = props; required_names = rules.required }) (is_closed others) else None) ≡ Some o → ShapeApart o
        by true h = closed (is_closed others) h
        by false h = none-some o h
    named-shape l (named props (property k u us) others names rules) o a e = none-some o e
    named-shape l (named props no_properties others (the_schema u) rules) o a e = none-some o e

    pub member-shape : (m : Member) (o : ObjectShape) → is_apart m.1 ≡ true → object_shape m ≡ Some o → ShapeApart o
    member-shape (l, boolean b) o a e = none-some o e
    member-shape (l, object q sq lq nq) o a e = by (has_type Object q.types && is_bare q sq && is_none q.format && is_none q.numbers && is_none q.texts && without_lists lq) e
      where
        by : (b : Bool) → (if b then shape_of_named l nq else None) ≡ Some o → ShapeApart o
        by true h = named-shape l nq o a h
        by false h = none-some o h

    abbrev AllApart : List ObjectShape → Type 0
    AllApart [] = Unit {0}
    AllApart (o ∷ os) = ShapeApart o × AllApart os

    shapes-apart : (k : Step) (i : ℕ) (us : Schemas) (os : List ObjectShape) → all_apart us ≡ true → all_some object_shape (members_from k i us) ≡ Some os → AllApart os
    shapes-apart k i no_more os a e = subst AllApart (some-same [] os e) tt
    shapes-apart k i (schema u us) os a e = by (object_shape (k ∷ place i ∷ [], u)) refl (all_some object_shape (members_from k (suc i) us)) refl e (shapes-apart k (suc i) us)
      where
        by : (x : Option ObjectShape) → object_shape (k ∷ place i ∷ [], u) ≡ x → (y : Option (List ObjectShape)) → all_some object_shape (members_from k (suc i) us) ≡ y
            → option_and_then (λ y. option_map (λ ys. y ∷ ys) (all_some object_shape (members_from k (suc i) us))) x ≡ Some os
            → ((xs : List ObjectShape) → all_apart us ≡ true → all_some object_shape (members_from k (suc i) us) ≡ Some xs → AllApart xs) → AllApart os
        by None f y g h rec = none-some os h
        by (Some o) f None g h rec = none-some os (ap (option_map (λ ys. o ∷ ys)) (sym g) ∙ h)
        by (Some o) f (Some xs) g h rec =
            subst AllApart (some-same (o ∷ xs) os (ap (option_map (λ ys. o ∷ ys)) (sym g) ∙ h)) (member-shape (k ∷ place i ∷ [], u) o (and_left _ _ a) f, rec xs (and_right (is_apart u) _ a) g)

    less-others : (n m : List ℕ) (ps : Properties) → list_all (λ x. not (bytes_eq m x)) (names_of ps) ≡ true → list_all (λ x. not (bytes_eq m x)) (names_of (less_property n ps)) ≡ true
    less-others n m no_properties h = refl
    less-others n m (property k u ps) h = by (bytes_eq n k) (and_left _ _ h) (less-others n m ps (and_right (not (bytes_eq m k)) _ h))
      where
        by : (b : Bool) → not (bytes_eq m k) ≡ true → list_all (λ x. not (bytes_eq m x)) (names_of (less_property n ps)) ≡ true → list_all (λ x. not (bytes_eq m x)) (names_of (if b then less_property n ps else property k u (less_property n ps))) ≡ true
        by true e g = g
        by false e g = λ i. e i && g i

    less-differ : (n : List ℕ) (ps : Properties) → differ (names_of ps) ≡ true → differ (names_of (less_property n ps)) ≡ true
    less-differ n no_properties h = refl
    less-differ n (property k u ps) h = by (bytes_eq n k) (less-others n k ps (and_left _ _ h)) (less-differ n ps (and_right (list_all (λ x. not (bytes_eq k x)) (names_of ps)) _ h))
      where
        by : (b : Bool) → list_all (λ x. not (bytes_eq k x)) (names_of (less_property n ps)) ≡ true → differ (names_of (less_property n ps)) ≡ true → differ (names_of (if b then less_property n ps else property k u (less_property n ps))) ≡ true
        by true e g = g
        by false e g = λ i. e i && g i

    placed-names : (l : Location) (fs : List FieldRow) → names_in (map (placed_field l) fs) ≡ names_in fs
    placed-names l [] = refl
    placed-names l (f ∷ fs) = ap (λ ns. f.name ∷ ns) (placed-names l fs)

    pub branch-names : (tag : List ℕ) (o : ObjectShape) → ShapeApart o → differ (names_in (branch_fields d.setting tag o)) ≡ true
    branch-names tag o h = ap differ (placed-names o.place (property_fields d.setting o.required_names (less_property tag o.props)) ∙ of-properties d.setting o.required_names (less_property tag o.props)) ∙ less-differ tag o.props h

    body-fine : (t : List ℕ) (fs : List FieldRow) → differ (names_in fs) ≡ true → BodyFine s (internal_tag t) (body_of_fields fs)
    body-fine t [] h = tt
    body-fine t (f ∷ fs) h = h

    internal-all : (t : List ℕ) (os : List ObjectShape) → AllApart os → BodiesFine s (internal_tag t) (map (internal_variant d.setting t) os)
    internal-all t [] h = tt
    internal-all t (o ∷ os) h = (body-fine t (branch_fields d.setting t o) (branch-names t o h.0), internal-all t os h.1)

    internal-fine : (k : Step) (us : Schemas) (t : TaggedShape) → all_apart us ≡ true → internal_shape d.setting (members_from k 0 us) ≡ Some t → BodiesFine s (internal_tag t.tag) t.variants
    internal-fine k us t a e =
        let f = internal-found d.setting (members_from k 0 us) t e in
        subst (λ x. BodiesFine s (internal_tag x.tag) x.variants) (sym f.made) (internal-all f.tag (map whole (members_from k 0 us)) (shapes-apart k 0 us (map whole (members_from k 0 us)) a f.shapes))

    content-fine : (t c : List ℕ) (fs : List FieldRow) → BodyFine s (adjacent_tag t c) (body_of_field fs)
    content-fine t c [] = tt
    content-fine t c (f ∷ fs) = tt

    adjacent-all : (t c n : List ℕ) (os : List ObjectShape) → BodiesFine s (adjacent_tag t c) (map (adjacent_variant n) os)
    adjacent-all t c n [] = tt
    adjacent-all t c n (o ∷ os) = (content-fine t c (branch_fields Strict n o), adjacent-all t c n os)

    adjacent-fine : (ms : List Member) (t : TaggedShape) → adjacent_shape ms ≡ Some t → BodiesFine s (adjacent_tag t.tag t.content) t.variants
    adjacent-fine ms t e =
        let f = adjacent-found ms t e in
        subst (λ x. BodiesFine s (adjacent_tag x.tag x.content) x.variants) (sym f.made) (adjacent-all f.tag f.content f.tag (map whole ms))

    -- ---- one of, any of, all of, not

    only-fine : (k : Step) (us : Schemas) (m : Member) → only_member (members_from k 0 us) ≡ Some m → (Refs P s → RefsAll P us) → Inherits s (lone_part m)
    only-fine k no_more m e f h = none-some m e
    only-fine k (schema u no_more) m e f h = subst (λ x. Refs P x.1) (some-same _ m e) (f h).0
    only-fine k (schema u (schema x us)) m e f h = none-some m e

    one-of-fine : (n : List ℕ) (k : Step) (us : Schemas) → all_apart us ≡ true → (Refs P s → RefsAll P us) → Fine s (one_of_finding d n (members_from k 0 us)).row
    one-of-fine n k us a f = optional (option_shape (members_from k 0 us)) refl
      where
        ms : List Member
        ms = members_from k 0 us

        only : (x : Option Member) → only_member ms ≡ x → Fine s (one_of_only d ms x).row
        only (Some m) e = only-fine k us m e f
        only None e = untagged-fine k 0 us f

        internal : (x : Option TaggedShape) → internal_shape d.setting ms ≡ x → Fine s (one_of_internal d ms x).row
        internal (Some t) e = internal-fine k us t a e
        internal None e = only (only_member ms) refl

        adjacent : (x : Option TaggedShape) → adjacent_shape ms ≡ x → Fine s (one_of_adjacent d ms x).row
        adjacent (Some t) e = adjacent-fine ms t e
        adjacent None e = internal (internal_shape d.setting ms) refl

        external : (x : Option (List VariantRow)) → external_members ms ≡ x → Fine s (one_of_external d ms x).row
        external (Some ws) e = external-fine ms ws e
        external None e = adjacent (adjacent_shape ms) refl

        optional : (x : Option Member) → option_shape ms ≡ x → Fine s (one_of_option d ms x).row
        optional (Some m) e = option-fine k us m e f
        optional None e = external (external_members ms) refl

    any-of-fine : (n : List ℕ) (us : Schemas) → all_apart us ≡ true → (Refs P s → RefsAll P us) → Fine s (any_of_finding d n (members_from (codes "anyOf") 0 us)).row
    any-of-fine n no_more a f = inl (never-quiet n)
    any-of-fine n (schema u us) a f = by (option_shape (members_from (codes "anyOf") 0 (schema u us))) refl
      where
        apart : (b : Bool) → Fine s (if b then one_of_finding d n (members_from (codes "anyOf") 0 (schema u us)) else plainly (untagged_row (members_from (codes "anyOf") 0 (schema u us)))).row
        apart true = one-of-fine n (codes "anyOf") (schema u us) a f
        apart false = untagged-fine (codes "anyOf") 0 (schema u us) f

        by : (x : Option Member) → option_shape (members_from (codes "anyOf") 0 (schema u us)) ≡ x → Fine s (any_of_others d n (members_from (codes "anyOf") 0 (schema u us)) x).row
        by None e = apart (exclusive d (schemas_of (members_from (codes "anyOf") 0 (schema u us))))
        by (Some m) e = option-fine (codes "anyOf") (schema u us) m e f

    all-of-fine : (us : Schemas) → (Refs P s → RefsAll P us) → Fine s (all_of_finding (members_from (codes "allOf") 0 us)).row
    all-of-fine no_more f = tt
    all-of-fine (schema u no_more) f = λ h. (f h).0
    all-of-fine (schema u (schema x us)) f = tt

    deny-fine : (q : Part) (vs : List Value) → Inherits s q → Fine s (deny q vs).row
    deny-fine q vs h = by (list_any is_owner vs)
      where
        by : (b : Bool) → Fine s (if b then plainly (refused_row nested_enum) else noted (here narrowed not_note ∷ []) (ruled_row q (deny_rule vs))).row
        by true = tt
        by false = h

    denied-fine : (o : Option InstanceType) (vs : List Value) → Fine s (denied o vs).row
    denied-fine None vs = tt
    denied-fine (Some k) vs = deny-fine (made (alone (of_type k no_keyword))) vs (λ h. (tt, tt))

    not-fine : (n : List ℕ) (u : Schema) → (Refs P s → Refs P u) → Fine s (not_finding n u).row
    not-fine n (boolean true) f = inl (never-quiet n)
    not-fine n (boolean false) f = inl (tt, tt)
    not-fine n (object q sq lq nq) f = a (is_none q.types && no_others q lq nq && without_same sq)
      where
        c : (b : Bool) → Fine s (if b then denied (type_of_listed (listed q.enum_values)) (listed q.enum_values) else plainly (refused_row bad_not)).row
        c true = denied-fine (type_of_listed (listed q.enum_values)) (listed q.enum_values)
        c false = tt

        g : (b : Bool) → Fine s (if b then deny (under_not (object (less_enum q) sq lq nq)) (listed q.enum_values) else if is_none q.types && is_some q.enum_values && no_others (less_enum q) lq nq && without_same sq then denied (type_of_listed (listed q.enum_values)) (listed q.enum_values) else plainly (refused_row bad_not)).row
        g true = deny-fine (under_not (object (less_enum q) sq lq nq)) (listed q.enum_values) f
        g false = c (is_none q.types && is_some q.enum_values && no_others (less_enum q) lq nq && without_same sq)

        a : (b : Bool) → Fine s (if b then plainly (leaf_row (never_entry n)) else if has_one_type q.types && is_some q.enum_values then deny (under_not (object (less_enum q) sq lq nq)) (listed q.enum_values) else if is_none q.types && is_some q.enum_values && no_others (less_enum q) lq nq && without_same sq then denied (type_of_listed (listed q.enum_values)) (listed q.enum_values) else plainly (refused_row bad_not)).row
        a true = inl (never-quiet n)
        a false = g (has_one_type q.types && is_some q.enum_values)

    subschemas-fine : (n : List ℕ) (x : Same) → branches_apart x ≡ true → (Refs P s → RefsSame P x) → Fine s (finding_or (subschema_finding d n x)).row
    subschemas-fine n no_same a f = tt
    subschemas-fine n (same_value (the_list us) no_list no_list no_schema false) a f = all-of-fine us (λ h. (f h).0)
    subschemas-fine n (same_value no_list (the_list us) no_list no_schema false) a f = any-of-fine n us (and_left _ _ a) (λ h. (f h).1)
    subschemas-fine n (same_value no_list no_list (the_list us) no_schema false) a f = one-of-fine n (codes "oneOf") us a (λ h. (f h).2)
    subschemas-fine n (same_value no_list no_list no_list (the_schema u) false) a f = not-fine n u (λ h. (f h).3)
    subschemas-fine n _ a f = tt

    -- ---- the table

    pub row-fine : (names_apart ns && branches_apart ss) ≡ true → Fine s (first_line (lines r d p ss ls ns)).row
    row-fine a = first-fine s (lines r d p ss ls ns) (
      (λ t. tt),
      (
        (λ t. nullable-fine (type_beside_null p.types)),
        (
          (λ t. text-fine (given_format p)),
          (
            (λ t. text-fine (given_format p)),
            (
              (λ t. enumerated-fine (listed p.enum_values)),
              (
                (λ t. constant-fine (constant_of p)),
                (
                  (λ t. inl (tt, tt)),
                  (
                    (λ t. boolean-fine p.enum_values),
                    (
                      (λ t. object-fine ns (and_left _ _ a)),
                      (
                        (λ t. object-fine ns (and_left _ _ a)),
                        (
                          (λ t. array-fine ls),
                          (
                            (λ t. array-fine ls),
                            (
                              (λ t. inl (tt, tt)),
                              (
                                (λ t. inl (tt, tt)),
                                (
                                  (λ t. reference-fine p.reference refl),
                                  (
                                    (λ t. reference-fine p.reference refl),
                                    (
                                      (λ t. tt),
                                      (
                                        (λ t. allowed-fine (listed p.enum_values)),
                                        (
                                          (λ t. listed-fine (listed p.enum_values)),
                                          (
                                            (λ t. subschemas-fine (wanted_of p) ss (and_right (names_apart ns) _ a) (λ h. h.1)),
                                            (
                                              (λ t. tt),
                                              ((λ t h. h), ((λ t h. h), ((λ t. typed-fine (only_type p.types)), ((λ t. kinds-fine (filter (λ k. type_among k p.types) variant_order)), tt)))),
                                            ),
                                          ),
                                        ),
                                      ),
                                    ),
                                  ),
                                ),
                              ),
                            ),
                          ),
                        ),
                      ),
                    ),
                  ),
                ),
              ),
            ),
          ),
        ),
      ),
    )

-- each schema's row
pub finding-fine : (P : List ℕ → Type 0) (r : Relations) (d : Document) (s : Schema) → HasNamesApart s → Fine P s (row_of r d s)
finding-fine P r d (boolean true) a = inl (tt, tt)
finding-fine P r d (boolean false) a = inl (never-quiet P [])
finding-fine P r d (object p ss ls ns) a = row-fine P r d p ss ls ns a
