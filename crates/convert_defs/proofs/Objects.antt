-- Rows of objects: maps, and structs whose members are taken one by one.
use Rattle.schema_defs.specs.declared.Setting.{Setting}
use Rattle.schema_defs.specs.Layer.{MemberPart as SchemaMember, is_passed_over}
use Rattle.std.proofs.Common.{◌≡◌, ℕ, List, [], ◌∷◌, ◌++◌, Bool, true, false, ◌&&◌, ◌||◌, not, Option, Some, None, is_some, refl, sym, ap, ◌∙◌, subst, true≢false, ◌⊎◌, inl, inr, codes, bytes_eq}
use Rattle.std.specs.Prelude.{if◌then◌else◌}
use Rattle.std.proofs.lemmas.Slice.Eq.{bytes_eq-Decides}
use Rattle.std.specs.List.{list_all, list_any}
use Rattle.json_value.specs.Value.{Value, Members, member, no_members, member_count, has_name}
use Rattle.schema_defs.specs.declared.InstanceType.TheVariants.{Object}
use Rattle.schema_defs.specs.Texts.{Relations}
use Rattle.schema_defs.specs.Schema.{Plain, Schema, boolean, object, Same, Lists, Named, named, MaybeSchema, no_schema, the_schema, MemberRules, Properties, no_properties, property}
use Rattle.schema_defs.specs.Layer.{Judge, Parts, patterns_agree, has_any, of_kind_agrees, parts_agree, is_kind, named_agree, member_agrees, member_rules_agree, property_at, is_given, maybe, within}
use Rattle.model_defs.specs.Layer as model
use Rattle.model_defs.specs.Layer.{MemberPart, no_parts, list_parts, object_parts, has_one_of}
use Rattle.entry_defs.specs.Entry.{Target, required, Entry, unit_entry, map_entry, item, struct_shape, Rest, no_rest, rest as the_rest, rest_of, Fields, no_fields, next_field, FieldEntry, fields_of}
use Rattle.entry_defs.specs.Layer as entry
use Rattle.entry_defs.specs.Layer.{entry_takes, members_take, may_be_missing}
use Rattle.entry_defs.specs.Members.{field_named, member_takes, other_takes, are_present, has_member, names_differ, AreMembers, IsFit}
use Rattle.entry_defs.proofs.Members.{members_one_by_one}
use Rattle.convert_defs.specs.Row.{Way, narrowed, widened, Part, child, FieldRow, field_parts, OutsideRow, outside_parts}
use Rattle.enum_defs.specs.Words.{has_type, is_bare, is_name, names_of}
use Rattle.schema_types.specs.Same.{same_schemas}
use Rattle.schema_types.proofs.Alike.{schemas_Decides}
use Rattle.convert_defs.specs.Convert.{pattern_key}
use Rattle.convert_defs.specs.Owners.{each_alike, is_shut, pattern_names, anything, any_text, other_part, name_part, names_texts, is_false, counts_notes, above_zero, property_fields, keeps_rest, outside_names, outside_row, state_of, default_of, may_be_null}
use Rattle.convert_defs.specs.Apart.{differ}
use Rattle.convert_defs.proofs.Apart.{names_in, other_field, required_fields, outside_rows, rows-outside, names_outside, fields-apart}
use Rattle.convert_defs.specs.Convert.{field_entry, row_fields, alike_fields, outside_fields}
use Rattle.convert_defs.specs.Laws.{Keeps, same_way, Free}
use Rattle.convert_defs.proofs.Keeps.{keep-equal, keep-from, keep-to, keep-then, keep-both, keep-wider, free-note}
use Rattle.convert_defs.proofs.Views.{View, of_null, of_boolean, of_number, of_text, of_list, of_object, JudgesMatch, MembersMatch, MemberMatch, schema_of, IsConverted, AllParts, PatternKeys, MembersKnown, says-any, says-true, Made, made-keeps}
use Rattle.convert_defs.proofs.Bare.{and_left, and_right, and_true, or_left, or_right, impossible, typed, swapped, exchanged, same_bools, not-above, no-most}
use Rattle.convert_defs.proofs.Scalars.{Agrees}
use Rattle.convert_defs.proofs.Arrays.{rest-says}

or-true : (b : Bool) → (b || true) ≡ true
or-true true = refl
or-true false = refl

module _ (way : Way) (st : Setting) (R : Schema → Entry → Type 0) (conv : Part → Entry) (r : Relations) where
  abbrev Conv : Part → Type 0
  Conv p = IsConverted way st R conv p

  -- ---- counts that are not noted say nothing

  counts-agree : (c : MemberRules) → Free way (counts_notes c) → same_way way widened ≡ true → (ms : Members) → within c.min_properties c.max_properties (member_count ms) ≡ true
  counts-agree c n e ms = let h = free-note way (above_zero c.min_properties || is_some c.max_properties) _ n e in
      λ i. not-above c.min_properties (member_count ms) (or_left (above_zero c.min_properties) _ h) i && no-most c.max_properties (member_count ms) (or_right (above_zero c.min_properties) _ h) i

  -- ---- maps

  name-says : (names : MaybeSchema) → names_texts names ≡ true → Conv (name_part names) → (name : List ℕ → Judge) (n : List ℕ) (j : SchemaMember) (k : MemberPart entry.Judge) → MemberMatch way st R name n j k
      → Keeps way (maybe (name n) names) (k.key (conv (name_part names)))
  name-says no_schema t e name n j k h = says-true way st R (name n) k.key h.key (schema_of any_text) (conv any_text) e h.is_text
  name-says (the_schema (boolean true)) t e name n j k h = keep-from way _ _ _ (h.key.booleans true) (says-true way st R (name n) k.key h.key (schema_of any_text) (conv any_text) e h.is_text)
  name-says (the_schema (boolean false)) t e name n j k h = impossible t
  name-says (the_schema (object p ss ls ns)) t e name n j k h = h.key.agree (object p ss ls ns) (conv (name_part (the_schema (object p ss ls ns)))) e

  map-member : (req : List (List ℕ)) (rest names : MaybeSchema) → names_texts names ≡ true → Conv (name_part names) → Conv (other_part rest) → (name : List ℕ → Judge) (n : List ℕ) (j : SchemaMember) (k : MemberPart entry.Judge) → MemberMatch way st R name n j k
      → Keeps way (member_agrees r name no_properties no_properties rest names req j) (k.key (conv (name_part names)) && k.value (conv (other_part rest)))
  map-member req rest names t e f name n j k h =
      keep-from way _ _ _ (ap (λ b. b && true && (false || false || maybe j.says rest) && maybe (name j.name) names) (or-true (is_passed_over req j)) ∙ swapped (maybe j.says rest) (maybe (name j.name) names) ∙ ap (λ m. maybe (name m) names && maybe j.says rest) h.same_name)
      (keep-both way _ _ _ _ (name-says names t e name n j k h) (rest-says way st R conv (codes "additionalProperties") rest j.says k.value h.value f))

  pub map-members : (req : List (List ℕ)) (rest names : MaybeSchema) → names_texts names ≡ true → Conv (name_part names) → Conv (other_part rest) → (name : List ℕ → Judge) (ms : Members) (js : List SchemaMember) (ks : List (MemberPart entry.Judge)) → MembersMatch way st R name ms js ks
      → Keeps way (list_all (member_agrees r name no_properties no_properties rest names req) js) (list_all (λ k. k.key (conv (name_part names)) && k.value (conv (other_part rest))) ks)
  map-members req rest names t e f name no_members [] [] h = keep-equal way true true refl
  map-members req rest names t e f name (member n v ms) (j ∷ js) (k ∷ ks) h = keep-both way _ _ _ _ (map-member req rest names t e f name n j k h.0) (map-members req rest names t e f name ms js ks h.1)
  map-members req rest names t e f name no_members [] (k ∷ ks) h = absurd h
  map-members req rest names t e f name no_members (j ∷ js) ks h = absurd h
  map-members req rest names t e f name (member n v ms) [] ks h = absurd h
  map-members req rest names t e f name (member n v ms) (j ∷ js) [] h = absurd h

  any-member : Conv any_text → Conv anything → (name : List ℕ → Judge) (n : List ℕ) (j : SchemaMember) (k : MemberPart entry.Judge) → MemberMatch way st R name n j k → Keeps way true (k.key (conv any_text) && k.value (conv anything))
  any-member e f name n j k h = keep-both way true _ true _ (says-true way st R (name n) k.key h.key (schema_of any_text) (conv any_text) e h.is_text) (says-any way st R j.says k.value h.value (conv anything) f)

  pub any-members : Conv any_text → Conv anything → (name : List ℕ → Judge) (ms : Members) (js : List SchemaMember) (ks : List (MemberPart entry.Judge)) → MembersMatch way st R name ms js ks → Keeps way true (list_all (λ k. k.key (conv any_text) && k.value (conv anything)) ks)
  any-members e f name no_members [] [] h = keep-equal way true true refl
  any-members e f name (member n v ms) (j ∷ js) (k ∷ ks) h = keep-both way true _ true _ (any-member e f name n j k h.0) (any-members e f name ms js ks h.1)
  any-members e f name no_members [] (k ∷ ks) h = absurd h
  any-members e f name no_members (j ∷ js) ks h = absurd h
  any-members e f name (member n v ms) [] ks h = absurd h
  any-members e f name (member n v ms) (j ∷ js) [] h = absurd h

  pub map-agrees : (rest names : MaybeSchema) (c : MemberRules) → c.required ≡ [] → Free way (counts_notes c) → names_texts names ≡ true → Conv (name_part names) → Conv (other_part rest)
      → (ms : Members) (ps : Parts) (ks : List (MemberPart entry.Judge)) → MembersMatch way st R ps.name ms ps.members ks
      → Keeps way (named_agree r ms ps (named no_properties no_properties rest names c)) (list_all (λ k. k.key (conv (name_part names)) && k.value (conv (other_part rest))) ks)
  map-agrees rest names c q n t e f ms ps ks h =
      keep-then way _ _ _ (keep-wider way (list_all (member_agrees r ps.name no_properties no_properties rest names c.required) ps.members) (member_rules_agree ms c) (λ u. (λ i. counts-agree c n u ms i && list_all (λ n. has_name n ms) (q i))))
      (map-members c.required rest names t e f ps.name ms ps.members ks h)

  -- ---- structs, member by member

  abbrev field_made : FieldRow → FieldEntry
  field_made f = record { identifier = f.name; name = f.name; entry = field_entry conv f; state = f.state }

  abbrev all_made : List FieldRow → List FieldEntry
  all_made fs = fields_of (row_fields conv fs no_fields)

  -- the schema of the rest, and what is made of it
  abbrev pub rest_part : MaybeSchema → Option Part
  rest_part (the_schema (object p ss ls ns)) = Some (child (codes "additionalProperties" ∷ []) (object p ss ls ns))
  rest_part _ = None

  abbrev pub option_parts : Option Part → List Part
  option_parts None = []
  option_parts (Some p) = p ∷ []

  abbrev pub rest_entry : Option Part → Rest
  rest_entry None = no_rest
  rest_entry (Some p) = the_rest (codes "extra") (conv p)

  -- what a struct has at a name: the field of the property, or what comes after the properties
  abbrev Lookup : List (List ℕ) → List ℕ → MaybeSchema → Option FieldEntry → Option FieldEntry → Type 0
  Lookup req n no_schema o tail = o ≡ tail
  Lookup req n (the_schema s) o tail = (f : FieldEntry) × (o ≡ Some f) × Made way st R req n s f.entry

  found : (req : List (List ℕ)) (n k : List ℕ) (b : Bool) → bytes_eq n k ≡ b → (s : Schema) (f : FieldEntry) → Made way st R req k s f.entry → (m : MaybeSchema) (o tail : Option FieldEntry) → Lookup req n m o tail
      → Lookup req n (if b then the_schema s else m) (if b then Some f else o) tail
  found req n k true e s f c m o tail h = (f, refl, subst (λ x. Made way st R req x s f.entry) (sym ((bytes_eq-Decides n k).0 e)) c)
  found req n k false e s f c m o tail h = h

  lookup : (req : List (List ℕ)) (props : Properties) → AllParts Conv (field_parts (property_fields st req props)) → (n : List ℕ) (ys : List FieldRow)
      → Lookup req n (property_at n props) (field_named n (all_made (property_fields st req props ++ ys))) (field_named n (all_made ys))
  lookup req no_properties c n ys = refl
  lookup req (property k s ps) c n ys =
      found req n k (bytes_eq n k) refl s (field_made (record { name = k; part = child (codes "properties" ∷ k ∷ []) s; state = state_of (is_name k req) (default_of s); nullable = may_be_null st && not (is_name k req) })) (conv (child (codes "properties" ∷ k ∷ []) s), c.0, refl) (property_at n ps) _ _ (lookup req ps c.1 n ys)

  -- what stands after the properties at a name: nothing, or what other members are converted to
  abbrev OtherAt : Part → Option FieldEntry → Type 0
  OtherAt other o = (o ≡ None) ⊎ ((f : FieldEntry) × (o ≡ Some f) × (f.entry ≡ conv other) × Conv other)

  picked : (other : Part) (l : List ℕ) (b : Bool) (o : Option FieldEntry) → Conv other → OtherAt other o → OtherAt other (if b then Some (field_made (other_field l other)) else o)
  picked other l true o c h = inr (field_made (other_field l other), refl, refl, c)
  picked other l false o c h = h

  skipped : (other : Part) (n l : List ℕ) (b : Bool) (xs : List FieldRow) → AllParts Conv (field_parts (if b then xs else other_field l other ∷ xs)) → (AllParts Conv (field_parts xs) → OtherAt other (field_named n (all_made xs)))
      → OtherAt other (field_named n (all_made (if b then xs else other_field l other ∷ xs)))
  skipped other n l true xs c f = f c
  skipped other n l false xs c f = picked other l (bytes_eq n l) (field_named n (all_made xs)) c.0 (f c.1)

  other-at : (props : Properties) (other : Part) (ns : List (List ℕ)) (n : List ℕ) → AllParts Conv (field_parts (required_fields props other ns)) → OtherAt other (field_named n (all_made (required_fields props other ns)))
  other-at props other [] n c = inl refl
  other-at props other (l ∷ ns) n c = skipped other n l (is_given (property_at l props)) (required_fields props other ns) c (other-at props other ns n)

  rest-takes : (rest : MaybeSchema) → AllParts Conv (option_parts (rest_part rest)) → (j : Judge) (k : MemberPart entry.Judge) → JudgesMatch way st R j k.value → Keeps way (maybe j rest) (other_takes (is_false rest) (rest_entry (rest_part rest)) k)
  rest-takes no_schema c j k h = keep-equal way true true refl
  rest-takes (the_schema (boolean true)) c j k h = keep-equal way _ _ (h.booleans true)
  rest-takes (the_schema (boolean false)) c j k h = keep-equal way _ _ (h.booleans false)
  rest-takes (the_schema (object p ss ls ns)) c j k h = h.agree (object p ss ls ns) (conv (child (codes "additionalProperties" ∷ []) (object p ss ls ns))) c.0

  module _ (rest : MaybeSchema) (c : AllParts Conv (option_parts (rest_part rest))) (j : SchemaMember) (k : MemberPart entry.Judge) (h : JudgesMatch way st R j.says k.value) where
    abbrev taken : Option FieldEntry → Bool
    taken o = member_takes (is_false rest) (rest_entry (rest_part rest)) k o

    other-taken : (tail : Option FieldEntry) → OtherAt (other_part rest) tail → Keeps way (maybe j.says rest) (taken tail)
    other-taken tail (inl e) = keep-to way _ _ _ (rest-takes rest c j.says k h) (ap taken (sym e))
    other-taken tail (inr (f, e, q, x)) = keep-to way _ _ _ (rest-says way st R conv (codes "additionalProperties") rest j.says k.value h x) (ap k.value (sym q) ∙ ap taken (sym e))

    member-by : (req : List (List ℕ)) (n : List ℕ) → j.name ≡ n → j.as_absent ≡ (may_be_null st && k.value unit_entry) → (m : MaybeSchema) (o tail : Option FieldEntry) → Lookup req n m o tail → OtherAt (other_part rest) tail
        → Keeps way ((is_passed_over req j || maybe j.says m) && true && (is_given m || false || maybe j.says rest)) (taken o)
    member-by req n x y no_schema o tail l t = keep-from way _ _ _ (ap (λ b. b && true && (false || false || maybe j.says rest)) (or-true (is_passed_over req j))) (keep-to way _ _ _ (other-taken tail t) (ap taken (sym l)))
    member-by req n x y (the_schema s) o tail l t = keep-from way _ _ _ (and_true ((is_passed_over req j || j.says s) && true) ∙ and_true (is_passed_over req j || j.says s)) (keep-to way _ _ _ (made-keeps way st R req n j k h x y s l.0.entry l.2) (ap taken (sym l.1)))

  names-said : (name : List ℕ → Judge) (n : List ℕ) (names : MaybeSchema) → is_given names ≡ false → maybe (name n) names ≡ true
  names-said name n no_schema h = refl
  names-said name n (the_schema s) h = impossible (sym h)

  module _ (req : List (List ℕ)) (props : Properties) (rest names : MaybeSchema) where
    abbrev pub fields : List FieldRow
    fields = property_fields st req props ++ required_fields props (other_part rest) req

    module _ (c : AllParts Conv (field_parts (property_fields st req props))) (o : AllParts Conv (field_parts (required_fields props (other_part rest) req))) (q : AllParts Conv (option_parts (rest_part rest))) (g : same_way way widened ≡ true → is_given names ≡ false) where
      abbrev member_said : MemberPart entry.Judge → Bool
      member_said k = member_takes (is_false rest) (rest_entry (rest_part rest)) k (field_named k.name (all_made fields))

      struct-member : (name : List ℕ → Judge) (n : List ℕ) (j : SchemaMember) (k : MemberPart entry.Judge) → MemberMatch way st R name n j k → Keeps way (member_agrees r name props no_properties rest names req j) (member_said k)
      struct-member name n j k h =
          keep-then way _ _ _ (keep-wider way ((is_passed_over req j || maybe j.says (property_at j.name props)) && true && (is_given (property_at j.name props) || false || maybe j.says rest)) (maybe (name j.name) names) (λ e. names-said name j.name names (g e)))
          (keep-from way _ _ _ (ap (λ m. (is_passed_over req j || maybe j.says (property_at m props)) && true && (is_given (property_at m props) || false || maybe j.says rest)) h.same_name)
          (keep-to way _ _ _ (member-by rest q j k h.value req n h.same_name h.as_absent (property_at n props) _ _ (lookup req props c n (required_fields props (other_part rest) req)) (other-at props (other_part rest) req n o))
          (ap (λ m. member_takes (is_false rest) (rest_entry (rest_part rest)) k (field_named m (all_made fields))) (sym h.name_is))))

      struct-members : (name : List ℕ → Judge) (ms : Members) (js : List SchemaMember) (ks : List (MemberPart entry.Judge)) → MembersMatch way st R name ms js ks
          → Keeps way (list_all (member_agrees r name props no_properties rest names req) js) (list_all member_said ks)
      struct-members name no_members [] [] h = keep-equal way true true refl
      struct-members name (member n v ms) (j ∷ js) (k ∷ ks) h = keep-both way _ _ _ _ (struct-member name n j k h.0) (struct-members name ms js ks h.1)
      struct-members name no_members [] (k ∷ ks) h = absurd h
      struct-members name no_members (j ∷ js) ks h = absurd h
      struct-members name (member n v ms) [] ks h = absurd h
      struct-members name (member n v ms) (j ∷ js) [] h = absurd h

  -- ---- which fields are present

  pub has-member : (name : List ℕ → Judge) (ms : Members) (js : List SchemaMember) (ks : List (MemberPart entry.Judge)) → MembersMatch way st R name ms js ks → (n : List ℕ) → has_member n ks ≡ has_name n ms
  has-member name no_members [] [] h n = refl
  has-member name (member l v ms) (j ∷ js) (k ∷ ks) h n = λ i. bytes_eq n (h.0.name_is i) || has-member name ms js ks h.1 n i
  has-member name no_members [] (k ∷ ks) h n = absurd h
  has-member name no_members (j ∷ js) ks h n = absurd h
  has-member name (member l v ms) [] ks h n = absurd h
  has-member name (member l v ms) (j ∷ js) [] h n = absurd h

  module _ (ks : List (MemberPart entry.Judge)) (req : List (List ℕ)) (props : Properties) (other : Part) where
    abbrev present : List FieldRow → Bool
    present fs = are_present (all_made fs) ks

    present-both : (xs ys : List FieldRow) → present (xs ++ ys) ≡ (present xs && present ys)
    present-both [] ys = refl
    present-both (f ∷ xs) ys = ap (λ b. (may_be_missing f.state || has_member f.name ks) && b) (present-both xs ys) ∙ sym (exchanged (may_be_missing f.state || has_member f.name ks) (present xs) (present ys))

    same-name : (n k : List ℕ) → bytes_eq n k ≡ true → n ≡ k
    same-name n k h = (bytes_eq-Decides n k).0 h

    itself : (n : List ℕ) → bytes_eq n n ≡ true
    itself n = (bytes_eq-Decides n n).1 refl

    needed : (b : Bool) (d : Option Value) (c : Bool) → b ≡ true → (may_be_missing (state_of b d) || c) ≡ true → c ≡ true
    needed true d c e h = h
    needed false d c e h = impossible e

    -- from the fields to the required names
    in-properties : (ps : Properties) → present (property_fields st req ps) ≡ true → (n : List ℕ) → is_name n req ≡ true → is_given (property_at n ps) ≡ true → has_member n ks ≡ true
    in-properties no_properties h n q g = impossible g
    in-properties (property k s ps) h n q g = by (bytes_eq n k) refl (λ e. in-properties ps (and_right (may_be_missing (state_of (is_name k req) (default_of s)) || has_member k ks) _ h) n q (ap (λ b. is_given (if b then the_schema s else property_at n ps)) (sym e) ∙ g))
      where
        by : (b : Bool) → bytes_eq n k ≡ b → (bytes_eq n k ≡ false → has_member n ks ≡ true) → has_member n ks ≡ true
        by true e f = subst (λ m. has_member m ks ≡ true) (sym (same-name n k e)) (needed (is_name k req) (default_of s) (has_member k ks) (ap (λ m. is_name m req) (sym (same-name n k e)) ∙ q) (and_left _ _ h))
        by false e f = f e

    outside : (ns : List (List ℕ)) → present (required_fields props other ns) ≡ true → (n : List ℕ) → is_name n ns ≡ true → is_given (property_at n props) ≡ false → has_member n ks ≡ true
    outside [] h n q g = impossible q
    outside (l ∷ ns) h n q g = by (bytes_eq n l) refl (λ e. outside ns (tail (is_given (property_at l props)) (required_fields props other ns) h) n (ap (λ b. b || is_name n ns) (sym e) ∙ q) g)
      where
        tail : (b : Bool) (xs : List FieldRow) → present (if b then xs else other_field l other ∷ xs) ≡ true → present xs ≡ true
        tail true xs h = h
        tail false xs h = and_right (has_member l ks) _ h

        head : (b : Bool) (xs : List FieldRow) → b ≡ false → present (if b then xs else other_field l other ∷ xs) ≡ true → has_member l ks ≡ true
        head true xs e h = absurd (true≢false e)
        head false xs e h = and_left _ _ h

        by : (b : Bool) → bytes_eq n l ≡ b → (bytes_eq n l ≡ false → has_member n ks ≡ true) → has_member n ks ≡ true
        by true e f = subst (λ m. has_member m ks ≡ true) (sym (same-name n l e)) (head (is_given (property_at l props)) (required_fields props other ns) (ap (λ m. is_given (property_at m props)) (sym (same-name n l e)) ∙ g) h)
        by false e f = f e

    all-named : (ns : List (List ℕ)) → ((n : List ℕ) → is_name n ns ≡ true → has_member n ks ≡ true) → list_all (λ n. has_member n ks) ns ≡ true
    all-named [] f = refl
    all-named (l ∷ ns) f = λ i. f l (ap (λ b. b || is_name l ns) (itself l)) i && all-named ns (λ n q. f n (by n q (bytes_eq n l))) i
      where
        by : (n : List ℕ) → is_name n ns ≡ true → (b : Bool) → (b || is_name n ns) ≡ true
        by n q true = refl
        by n q false = q

    -- from the required names to the fields
    named-one : (ns : List (List ℕ)) → list_all (λ n. has_member n ks) ns ≡ true → (n : List ℕ) → is_name n ns ≡ true → has_member n ks ≡ true
    named-one [] h n q = impossible q
    named-one (l ∷ ns) h n q = by (bytes_eq n l) refl (λ e. named-one ns (and_right (has_member l ks) _ h) n (ap (λ b. b || is_name n ns) (sym e) ∙ q))
      where
        by : (b : Bool) → bytes_eq n l ≡ b → (bytes_eq n l ≡ false → has_member n ks ≡ true) → has_member n ks ≡ true
        by true e f = subst (λ m. has_member m ks ≡ true) (sym (same-name n l e)) (and_left _ _ h)
        by false e f = f e

    properties-present : (f : (n : List ℕ) → is_name n req ≡ true → has_member n ks ≡ true) (ps : Properties) → present (property_fields st req ps) ≡ true
    properties-present f no_properties = refl
    properties-present f (property k s ps) = λ i. by (is_name k req) (default_of s) (f k) i && properties-present f ps i
      where
        by : (b : Bool) (d : Option Value) → (b ≡ true → has_member k ks ≡ true) → (may_be_missing (state_of b d) || has_member k ks) ≡ true
        by true d g = g refl
        by false None g = refl
        by false (Some v) g = refl

    others-present : (ns : List (List ℕ)) → list_all (λ n. has_member n ks) ns ≡ true → present (required_fields props other ns) ≡ true
    others-present [] h = refl
    others-present (l ∷ ns) h = by (is_given (property_at l props)) (required_fields props other ns) (others-present ns (and_right (has_member l ks) _ h))
      where
        by : (b : Bool) (xs : List FieldRow) → present xs ≡ true → present (if b then xs else other_field l other ∷ xs) ≡ true
        by true xs g = g
        by false xs g = λ i. and_left (has_member l ks) _ h i && g i

    by-given : (n : List ℕ) → is_name n req ≡ true → present (property_fields st req props) ≡ true → present (required_fields props other req) ≡ true → (b : Bool) → is_given (property_at n props) ≡ b → has_member n ks ≡ true
    by-given n q a b true e = in-properties props a n q e
    by-given n q a b false e = outside req b n q e

    pub presence : are_present (all_made (property_fields st req props ++ required_fields props other req)) ks ≡ list_all (λ n. has_member n ks) req
    presence = present-both (property_fields st req props) (required_fields props other req)
        ∙ same_bools _ _
        (λ h. all-named req (λ n q. by-given n q (and_left _ _ h) (and_right (present (property_fields st req props)) _ h) (is_given (property_at n props)) refl))
        (λ h. λ i. properties-present (named-one req h) props i && others-present req h i)

  -- ---- the names of the fields differ

  other-names : (n : List ℕ) (fs : List FieldRow) → list_all (λ g. not (bytes_eq n g.name)) (all_made fs) ≡ list_all (λ m. not (bytes_eq n m)) (names_in fs)
  other-names n [] = refl
  other-names n (f ∷ fs) = ap (λ b. not (bytes_eq n f.name) && b) (other-names n fs)

  pub same-differ : (fs : List FieldRow) → names_differ (all_made fs) ≡ differ (names_in fs)
  same-differ [] = refl
  same-differ (f ∷ fs) = λ i. other-names f.name fs i && same-differ fs i

  fields-differ : (req : List (List ℕ)) (props : Properties) (rest names : MaybeSchema) → differ (names_of props) ≡ true → differ req ≡ true → names_differ (all_made (fields req props rest names)) ≡ true
  fields-differ req props rest names h g =
      same-differ (fields req props rest names) ∙ fields-apart st req props (other_part rest) h g

  fit : (rest : MaybeSchema) → IsFit (is_false rest) (rest_entry (rest_part rest))
  fit no_schema = tt
  fit (the_schema (boolean true)) = tt
  fit (the_schema (boolean false)) = tt
  fit (the_schema (object p ss ls ns)) = refl

  struct-agrees : (props : Properties) (rest names : MaybeSchema) (c : MemberRules) → differ (names_of props) ≡ true → differ c.required ≡ true → Free way (counts_notes c) → (same_way way widened ≡ true → is_given names ≡ false)
      → AllParts Conv (field_parts (property_fields st c.required props)) → AllParts Conv (field_parts (required_fields props (other_part rest) c.required)) → AllParts Conv (option_parts (rest_part rest))
      → (ms : Members) (ps : Parts) (ks : List (MemberPart entry.Judge)) → MembersMatch way st R ps.name ms ps.members ks → AreMembers ks
      → Keeps way (named_agree r ms ps (named props no_properties rest names c)) (members_take (is_false rest) (all_made (fields c.required props rest names)) (rest_entry (rest_part rest)) ks)
  struct-agrees props rest names c x y n g a b q ms ps ks h am =
      keep-to way _ _ _
      (keep-both way _ _ _ _ (struct-members c.required props rest names a b q g ps.name ms ps.members ks h)
      (keep-from way _ _ _ (swapped (within c.min_properties c.max_properties (member_count ms)) (list_all (λ n. has_name n ms) c.required))
      (keep-then way _ _ _ (keep-wider way (list_all (λ n. has_name n ms) c.required) (within c.min_properties c.max_properties (member_count ms)) (λ e. counts-agree c n e ms))
      (keep-equal way _ _ ((λ i. list_all (λ n. sym (has-member ps.name ms ps.members ks h n) i) c.required) ∙ sym (presence ks c.required props (other_part rest)))))))
      (sym (members_one_by_one (is_false rest) (all_made (fields c.required props rest names)) (rest_entry (rest_part rest)) ks (fit rest) (fields-differ c.required props rest names x y) am))

  -- ---- the fields of a struct as one list, though those outside `properties` and the rest are one part

  all-both : (fs : List FieldRow) (more : Fields) → fields_of (row_fields conv fs more) ≡ all_made fs ++ fields_of more
  all-both [] more = refl
  all-both (f ∷ fs) more = ap (λ xs. field_made f ∷ xs) (all-both fs more)

  pub rest-both : (fs : List FieldRow) (more : Fields) → rest_of (row_fields conv fs more) ≡ rest_of more
  rest-both [] more = refl
  rest-both (f ∷ fs) more = rest-both fs more

  made-both : (fs gs : List FieldRow) → all_made (fs ++ gs) ≡ all_made fs ++ all_made gs
  made-both [] gs = refl
  made-both (f ∷ fs) gs = ap (λ xs. field_made f ∷ xs) (made-both fs gs)

  next-alike : (n : List ℕ) (ns : List (List ℕ)) (b : Bool) (e : Entry) → next_field (alike_fields (n ∷ ns) b e) ≡ e
  next-alike n [] true e = refl
  next-alike n [] false e = refl
  next-alike n (m ∷ ns) b e = next-alike m ns b e

  alike-made : (other : Part) (ns : List (List ℕ)) (b : Bool) → fields_of (alike_fields ns b (conv other)) ≡ all_made (outside_rows other ns)
  alike-made other [] true = refl
  alike-made other [] false = refl
  alike-made other (n ∷ []) true = refl
  alike-made other (n ∷ []) false = refl
  alike-made other (n ∷ m ∷ ns) b = λ i. record { identifier = n; name = n; entry = next-alike m ns b (conv other) i; state = required } ∷ alike-made other (m ∷ ns) b i

  alike-rest : (ns : List (List ℕ)) (b : Bool) (e : Entry) → rest_of (alike_fields ns b e) ≡ (if b then the_rest (codes "extra") e else no_rest)
  alike-rest [] true e = refl
  alike-rest [] false e = refl
  alike-rest (n ∷ []) true e = refl
  alike-rest (n ∷ []) false e = refl
  alike-rest (n ∷ m ∷ ns) b e = alike-rest (m ∷ ns) b e

  kept-rest : (rest : MaybeSchema) → (if keeps_rest rest then the_rest (codes "extra") (conv (other_part rest)) else no_rest) ≡ rest_entry (rest_part rest)
  kept-rest no_schema = refl
  kept-rest (the_schema (boolean b)) = refl
  kept-rest (the_schema (object p ss ls ns)) = refl

  outside-made : (ns : List (List ℕ)) (rest : MaybeSchema) → fields_of (outside_fields conv (outside_row ns rest)) ≡ all_made (outside_rows (other_part rest) ns)
  outside-made (n ∷ ns) rest = alike-made (other_part rest) (n ∷ ns) (keeps_rest rest)
  outside-made [] no_schema = refl
  outside-made [] (the_schema (boolean b)) = refl
  outside-made [] (the_schema (object p ss ls ns)) = refl

  outside-rest : (ns : List (List ℕ)) (rest : MaybeSchema) → rest_of (outside_fields conv (outside_row ns rest)) ≡ rest_entry (rest_part rest)
  outside-rest (n ∷ ns) rest = alike-rest (n ∷ ns) (keeps_rest rest) (conv (other_part rest)) ∙ kept-rest rest
  outside-rest [] no_schema = refl
  outside-rest [] (the_schema (boolean b)) = refl
  outside-rest [] (the_schema (object p ss ls ns)) = refl

  -- what is known of the one part is known of each field and of the rest
  outside-known : (ns : List (List ℕ)) (rest : MaybeSchema) → AllParts Conv (outside_parts (outside_row ns rest)) → AllParts Conv (field_parts (outside_rows (other_part rest) ns))
  outside-known [] rest c = tt
  outside-known (n ∷ ns) rest c = (c.0, all c.0 ns)
    where
      all : Conv (other_part rest) → (ns : List (List ℕ)) → AllParts Conv (field_parts (outside_rows (other_part rest) ns))
      all c [] = tt
      all c (n ∷ ns) = (c, all c ns)

  rest-known : (ns : List (List ℕ)) (rest : MaybeSchema) → AllParts Conv (outside_parts (outside_row ns rest)) → AllParts Conv (option_parts (rest_part rest))
  rest-known ns no_schema c = tt
  rest-known ns (the_schema (boolean b)) c = tt
  rest-known [] (the_schema (object p ss ls ms)) c = c
  rest-known (n ∷ ns) (the_schema (object p ss ls ms)) c = c

  abbrev pub struct_fields : (req : List (List ℕ)) → Properties → MaybeSchema → Fields
  struct_fields req props rest = row_fields conv (property_fields st req props) (outside_fields conv (outside_row (outside_names props req) rest))

  pub struct-taken : (props : Properties) (rest names : MaybeSchema) (c : MemberRules) → differ (names_of props) ≡ true → differ c.required ≡ true → Free way (counts_notes c) → (same_way way widened ≡ true → is_given names ≡ false)
      → AllParts Conv (field_parts (property_fields st c.required props)) → AllParts Conv (outside_parts (outside_row (outside_names props c.required) rest))
      → (ms : Members) (ps : Parts) (ks : List (MemberPart entry.Judge)) → MembersMatch way st R ps.name ms ps.members ks → AreMembers ks
      → Keeps way (named_agree r ms ps (named props no_properties rest names c)) (members_take (is_false rest) (fields_of (struct_fields c.required props rest)) (rest_of (struct_fields c.required props rest)) ks)
  struct-taken props rest names c x y n g a b ms ps ks h am =
      let fs = property_fields st c.required props in
      let os = outside_row (outside_names props c.required) rest in
      let e = all-both fs (outside_fields conv os) ∙ ap (λ xs. all_made fs ++ xs) (outside-made (outside_names props c.required) rest ∙ ap all_made (rows-outside props (other_part rest) c.required)) ∙ sym (made-both fs (required_fields props (other_part rest) c.required)) in
      let k = rest-both fs (outside_fields conv os) ∙ outside-rest (outside_names props c.required) rest in
      keep-to way _ _ _
      (struct-agrees props rest names c x y n g a (subst (λ xs. AllParts Conv (field_parts xs)) (rows-outside props (other_part rest) c.required) (outside-known (outside_names props c.required) rest b)) (rest-known (outside_names props c.required) rest b) ms ps ks h am)
      (λ i. members_take (is_false rest) (sym e i) (sym k i) ks)

  -- ---- the names of all fields

  abbrev pub entry_names : List FieldEntry → List (List ℕ)
  entry_names [] = []
  entry_names (f ∷ fs) = f.name ∷ entry_names fs

  names-among : (n : List ℕ) (fs : List FieldEntry) → list_all (λ g. not (bytes_eq n g.name)) fs ≡ list_all (λ m. not (bytes_eq n m)) (entry_names fs)
  names-among n [] = refl
  names-among n (f ∷ fs) = ap (λ b. not (bytes_eq n f.name) && b) (names-among n fs)

  pub differ-names : (fs : List FieldEntry) → names_differ fs ≡ differ (entry_names fs)
  differ-names [] = refl
  differ-names (f ∷ fs) = λ i. names-among f.name fs i && differ-names fs i

  alike-names : (ns : List (List ℕ)) (b : Bool) (e : Entry) → entry_names (fields_of (alike_fields ns b e)) ≡ ns
  alike-names [] true e = refl
  alike-names [] false e = refl
  alike-names (n ∷ []) true e = refl
  alike-names (n ∷ []) false e = refl
  alike-names (n ∷ m ∷ ns) b e = ap (λ xs. n ∷ xs) (alike-names (m ∷ ns) b e)

  outside-named : (o : Option OutsideRow) → entry_names (fields_of (outside_fields conv o)) ≡ names_outside o
  outside-named None = refl
  outside-named (Some o) = alike-names o.names o.keeps_rest (conv o.part)

  pub all-named-once : (fs : List FieldRow) (o : Option OutsideRow) → entry_names (fields_of (row_fields conv fs (outside_fields conv o))) ≡ names_in fs ++ names_outside o
  all-named-once [] o = outside-named o
  all-named-once (f ∷ fs) o = ap (λ xs. f.name ∷ xs) (all-named-once fs o)

  -- ---- maps by patterns

  all-alike : (has : List ℕ → Bool) (j : Judge) (k : entry.Judge) → JudgesMatch way st R j k → (s : Schema) (qs : Properties) → each_alike s qs ≡ true → patterns_agree has j qs ≡ (not (has_any has qs) || j s)
  all-alike has j k h s no_properties e = refl
  all-alike has j k h s (property n t qs) e = ap (λ b. (not (has n) || b) && patterns_agree has j qs) (h.alike t s (and_left _ _ e)) ∙ ap (λ b. (not (has n) || j s) && b) (all-alike has j k h s qs (and_right (same_schemas t s) _ e)) ∙ either (has n) (has_any has qs) (j s)
    where
      either : (a b c : Bool) → ((not a || c) && (not b || c)) ≡ (not (a || b) || c)
      either true true c = and-same c
        where
          and-same : (c : Bool) → (c && c) ≡ c
          and-same true = refl
          and-same false = refl
      either true false c = and_true c
      either false b c = refl

  any-names : (has : List ℕ → Bool) (qs : Properties) → has_any has qs ≡ list_any has (pattern_names qs)
  any-names has no_properties = refl
  any-names has (property n t qs) = ap (λ b. has n || b) (any-names has qs)

  module _ (n : List ℕ) (s : Schema) (qs : Properties) (alike : each_alike s qs ≡ true) (rest : MaybeSchema) (shut : is_shut rest ≡ true) (said : same_way way narrowed ≡ true → is_given rest ≡ true) (p : Part) (c : R s (conv p)) where
    abbrev all_patterns : Properties
    all_patterns = property n s qs

    abbrev key : Entry
    key = pattern_key (n ∷ pattern_names qs)

    whole : (j : Judge) (k : entry.Judge) → JudgesMatch way st R j k → each_alike s all_patterns ≡ true
    whole j k h = λ i. itself i && alike i
      where
        itself : same_schemas s s ≡ true
        itself = (schemas_Decides s s).1 refl

    closed-or-open : (a : Bool) (j : Judge) (k : entry.Judge) → JudgesMatch way st R j k → Keeps way ((not a || j s) && (false || a || maybe j rest) && true) (a && k (conv p))
    closed-or-open a j k h = by rest shut said
      where
        same : (a x : Bool) → ((not a || x) && (a || false) && true) ≡ (a && x)
        same true true = refl
        same true false = refl
        same false x = refl

        wider : (a x y : Bool) → (y ≡ true → x ≡ true) → (a && y) ≡ true → ((not a || x) && (a || true) && true) ≡ true
        wider true x y f h = ap (λ b. b && true && true) (f h)
        wider false x y f h = impossible h

        unsaid : (m : Way) → (same_way m narrowed ≡ true → false ≡ true) → Keeps m (j s) (k (conv p)) → Keeps m ((not a || j s) && (a || true) && true) (a && k (conv p))
        unsaid narrowed f g = absurd (true≢false (sym (f refl)))
        unsaid widened f g = λ t. wider a (j s) (k (conv p)) g t

        by : (rest : MaybeSchema) → is_shut rest ≡ true → (same_way way narrowed ≡ true → is_given rest ≡ true) → Keeps way ((not a || j s) && (false || a || maybe j rest) && true) (a && k (conv p))
        by no_schema x f = unsaid way f (h.agree s (conv p) c)
        by (the_schema (boolean false)) x f = keep-from way _ _ _ (ap (λ b. (not a || j s) && (a || b) && true) (h.booleans false) ∙ same a (j s)) (keep-both way a a (j s) (k (conv p)) (keep-equal way _ _ refl) (h.agree s (conv p) c))
        by (the_schema (boolean true)) x f = impossible x
        by (the_schema (object q ss ls ns)) x f = impossible x

    pattern-member : (req : List (List ℕ)) (name : List ℕ → Judge) (l : List ℕ) (j : SchemaMember) (k : MemberPart entry.Judge) → MemberMatch way st R name l j k → ((qs : List (List ℕ)) → k.key (pattern_key qs) ≡ has_one_of (λ q. r.matches q k.name) qs)
        → Keeps way (member_agrees r name no_properties all_patterns rest no_schema req j) (k.key key && k.value (conv p))
    pattern-member req name l j k h f =
        let a = has_any (λ q. r.matches q j.name) all_patterns in
        keep-from way _ _ _ (ap (λ b. b && patterns_agree (λ q. r.matches q j.name) j.says all_patterns && (false || a || maybe j.says rest) && true) (or-true (is_passed_over req j)) ∙ ap (λ b. b && (false || a || maybe j.says rest) && true) (all-alike (λ q. r.matches q j.name) j.says k.value h.value s all_patterns (whole j.says k.value h.value)))
        (keep-to way _ _ _ (closed-or-open a j.says k.value h.value)
        (ap (λ b. b && k.value (conv p)) (any-names (λ q. r.matches q j.name) all_patterns ∙ ap (λ m. list_any (λ q. r.matches q m) (n ∷ pattern_names qs)) (h.same_name ∙ sym h.name_is) ∙ sym (f (n ∷ pattern_names qs)))))

    pattern-members : (req : List (List ℕ)) (name : List ℕ → Judge) (ms : Members) (js : List SchemaMember) (ks : List (MemberPart entry.Judge)) → MembersMatch way st R name ms js ks → PatternKeys way st R r ks
        → Keeps way (list_all (member_agrees r name no_properties all_patterns rest no_schema req) js) (list_all (λ k. k.key key && k.value (conv p)) ks)
    pattern-members req name no_members [] [] h f = keep-equal way true true refl
    pattern-members req name (member l v ms) (j ∷ js) (k ∷ ks) h f = keep-both way _ _ _ _ (pattern-member req name l j k h.0 f.0) (pattern-members req name ms js ks h.1 f.1)
    pattern-members req name no_members [] (k ∷ ks) h f = absurd h
    pattern-members req name no_members (j ∷ js) ks h f = absurd h
    pattern-members req name (member l v ms) [] ks h f = absurd h
    pattern-members req name (member l v ms) (j ∷ js) [] h f = absurd h

    pub patterns-agree : (c : MemberRules) → c.required ≡ [] → Free way (counts_notes c) → (ms : Members) (ps : Parts) (ks : List (MemberPart entry.Judge)) → MembersMatch way st R ps.name ms ps.members ks → PatternKeys way st R r ks
        → Keeps way (named_agree r ms ps (named no_properties all_patterns rest no_schema c)) (list_all (λ k. k.key key && k.value (conv p)) ks)
    patterns-agree c q f ms ps ks h g =
        keep-then way _ _ _ (keep-wider way (list_all (member_agrees r ps.name no_properties all_patterns rest no_schema c.required) ps.members) (member_rules_agree ms c) (λ u. (λ i. counts-agree c f u ms i && list_all (λ n. has_name n ms) (q i))))
        (pattern-members c.required ps.name ms ps.members ks h g)

  -- ---- the rows

  module _ (fol : List ℕ → Bool) (tgt : Target → Bool) (v : Value) (ps : Parts) (es : model.Parts entry.Judge) (w : View way st R r v ps es) (p : Plain) (ss : Same) (ls : Lists) (ns : Named) where
    -- what the members of a value say by the schema and by the entry
    abbrev pub OfMembers : (List (MemberPart entry.Judge) → Bool) → Type 0
    OfMembers f = (ms : Members) (ps : Parts) (ks : List (MemberPart entry.Judge)) → MembersMatch way st R ps.name ms ps.members ks → MembersKnown way st R r ms ps.members ks → Keeps way (named_agree r ms ps ns) (f ks)

    pub map-row : (e g : Entry) → OfMembers (λ ks. list_all (λ k. k.key e && k.value g) ks) → has_type Object p.types ≡ true → is_bare p ss ≡ true → Agrees way st R r fol tgt v ps es (object p ss ls ns) (map_entry e g)
    map-row e g f t h = keep-from way _ _ _ (typed r v ps fol p ss ls ns Object t h) (by w)
      where
        by : {v : Value} {ps : Parts} {es : model.Parts entry.Judge} → View way st R r v ps es → Keeps way (is_kind v Object && of_kind_agrees r p v && parts_agree r v ps ls ns) (entry.as_map e g es)
        by (of_null ps) = keep-equal way _ _ refl
        by (of_boolean b ps) = keep-equal way _ _ refl
        by (of_number z ps s) = keep-equal way _ _ refl
        by (of_text s ps) = keep-equal way _ _ refl
        by (of_list xs ps ks h) = keep-equal way _ _ refl
        by (of_object ms ps ks h am) = f ms ps ks h am

    pub struct-row : (l : List ℕ) (closed : Bool) (fs : Fields) → OfMembers (members_take closed (fields_of fs) (rest_of fs)) → has_type Object p.types ≡ true → is_bare p ss ≡ true
        → Agrees way st R r fol tgt v ps es (object p ss ls ns) (item l (struct_shape closed fs))
    struct-row l closed fs f t h = keep-from way _ _ _ (typed r v ps fol p ss ls ns Object t h) (by w)
      where
        by : {v : Value} {ps : Parts} {es : model.Parts entry.Judge} → View way st R r v ps es → Keeps way (is_kind v Object && of_kind_agrees r p v && parts_agree r v ps ls ns) (entry.struct_takes closed (fields_of fs) (rest_of fs) es)
        by (of_null ps) = keep-equal way _ _ refl
        by (of_boolean b ps) = keep-equal way _ _ refl
        by (of_number z ps s) = keep-equal way _ _ refl
        by (of_text s ps) = keep-equal way _ _ refl
        by (of_list xs ps ks h) = keep-equal way _ _ refl
        by (of_object ms ps ks h am) = f ms ps ks h am
