-- Items that a module takes have tame models.
use Rattle.std.proofs.Common.{◌≡◌, ℕ, List, [], ◌∷◌, ◌++◌, map, Bool, true, false, ◌&&◌, ◌||◌, not, cond, refl, sym, ap, ◌∙◌, subst, true≢false, bytes_eq, Option, Some, None, is_some, option_map}
use Rattle.std.specs.List.{list_any, list_all, flat_map, filter_map, cons_option}
use Rattle.std.proofs.lemmas.Slice.Eq.{bytes_eq-Decides}
use Rattle.token_trees.specs.declared.token.Span.{Span}
use Rattle.token_trees.specs.Token.{Name}
use Rattle.syntax_trees.specs.Syntax.{TyD}
use Rattle.syntax_trees.specs.Item.{ItemD}
use Rattle.attr_parts.specs.declared.derive.Derive.{Derive}
use Rattle.attr_parts.specs.Diagnostics.{DiagnosticD, KindD, tag_conflict, same_tags, transparent_try_from}
use Rattle.attr_parts.specs.Values.{TagD, external, internal, adjacent, untagged}
use Rattle.attr_defs.specs.Container.{container_attrs}
use Rattle.attr_defs.specs.Renames.{Meaning}
use Rattle.attr_defs.specs.Texts.{Lexing}
use Rattle.model_defs.specs.Types.{TypeModel, boolean_type, integer_type, text_type, native_type, any_type, unit_type, option_type, boxed_type, vec_type, set_type, map_type, tuple_type, array_type, item_type, outside_type}
use Rattle.type_spellings.specs.Types.{type_of}
use Rattle.model_defs.specs.Model.{ContainerModel, ConversionsD}
use Rattle.reading_defs.specs.Proper.{has_shape, body_has_shape}
use Rattle.writing_laws.specs.Tables.{is_beside}
use Rattle.container_defs.specs.declared.style.Style.{Style}
use Rattle.container_defs.specs.declared.style.Style.TheVariants.{Struct, Tuple, Newtype, Unit as NoFields}
use Rattle.container_defs.specs.Checks as checks
use Rattle.container_defs.specs.Checks.{told_if, variants_in, is_struct, has_text, is_written_as, is_read_as, has_tag_name, check_internal_tag_field_name_conflict, check_adjacent_tag_conflict, check_transparent, types_told, at_item, mark_in, marked, checks_told}
use Rattle.container_defs.specs.Container.{ReadField, ReadVariant, ReadData, read_enum, read_struct, ReadContainer, all_fields}
use Rattle.container_defs.specs.Model.{model_of, diagnostics_of, members_told, told_at_last}
use Rattle.attr_defs.specs.Container.{container_diagnostics}
use Rattle.container_defs.specs.Reading.{data_of, container_with, container_of}
use Rattle.container_defs.specs.Reader.{field_model, style_model, variant_model, tag_model, body_model, reader_model, item_models}
use Rattle.container_defs.specs.Forms as forms
use Rattle.container_defs.specs.Forms.{names_of, is_outside, leaves_forms, are_inside, rules_of, struct_is, lacks_row, stands_beside, same_type, newtype_type, fails, any_variant, any_field}
use Rattle.form_laws.proofs.Fields.{first_false, then_false, both_true, true_of_not}
use Rattle.form_laws.proofs.Shapes.{HasShape, data_shape}
use Rattle.form_laws.proofs.Inside.{items_fit}
use Rattle.evolve_defs.specs.FormRows.{rule_at_newtype}
use Rattle.evolve_defs.specs.Tables.{is_tag_tame, is_body_tame, is_tame, IsTame}

-- ---- lists and tests

left_empty : {A : Type 0} → (xs ys : List A) → xs ++ ys ≡ [] → xs ≡ []
left_empty [] ys h = refl
left_empty (x ∷ xs) ys h = cc

right_empty : {A : Type 0} → (xs ys : List A) → xs ++ ys ≡ [] → ys ≡ []
right_empty [] ys h = h
right_empty (x ∷ xs) ys h = cc

not_told : (b : Bool) (k : KindD) (at : Span) → told_if b k at ≡ [] → b ≡ false
not_told true k at h = cc
not_told false k at h = refl

turned : (m n : List ℕ) → bytes_eq m n ≡ false → bytes_eq n m ≡ false
turned m n h = elim (bytes_eq n m) as (λ b. bytes_eq n m ≡ b → b ≡ false) [
  | true ↦ λ e. absurd (true≢false (sym ((bytes_eq-Decides m n).1 (sym ((bytes_eq-Decides n m).0 e))) ∙ h))
  | false ↦ λ e. refl
] refl

abbrev NoneOf : {A : Type 0} → (A → Bool) → List A → Type 0
NoneOf test [] = Unit {0}
NoneOf test (a ∷ xs) = (test a ≡ false) × NoneOf test xs

none_of : {A : Type 0} (test : A → Bool) (xs : List A) → list_any test xs ≡ false → NoneOf test xs
none_of test [] h = tt
none_of test (a ∷ xs) h = (first_false (test a) (list_any test xs) h, none_of test xs (then_false (test a) (list_any test xs) h))

front_none : {A : Type 0} → (test : A → Bool) (xs ys : List A) → list_any test (xs ++ ys) ≡ false → list_any test xs ≡ false
front_none test [] ys h = refl
front_none test (x ∷ xs) ys h = ap (λ b. b || list_any test xs) (first_false (test x) (list_any test (xs ++ ys)) h) ∙ front_none test xs ys (then_false (test x) (list_any test (xs ++ ys)) h)

back_none : {A : Type 0} → (test : A → Bool) (xs ys : List A) → list_any test (xs ++ ys) ≡ false → list_any test ys ≡ false
back_none test [] ys h = h
back_none test (x ∷ xs) ys h = back_none test xs ys (then_false (test x) (list_any test (xs ++ ys)) h)

-- ---- rules

outside_is_none : (m : TypeModel) → same_type outside_type m ≡ false
outside_is_none boolean_type = refl
outside_is_none (integer_type r) = refl
outside_is_none text_type = refl
outside_is_none (native_type f) = refl
outside_is_none any_type = refl
outside_is_none unit_type = refl
outside_is_none (option_type t) = refl
outside_is_none (boxed_type t) = refl
outside_is_none (vec_type t) = refl
outside_is_none (set_type t) = refl
outside_is_none (map_type k t) = refl
outside_is_none (tuple_type ts) = refl
outside_is_none (array_type t n) = refl
outside_is_none (item_type n) = refl
outside_is_none outside_type = refl

not_outside : (t : TypeModel) → same_type outside_type t ≡ true → ⊥
not_outside t h = true≢false (sym h ∙ outside_is_none t)

first_true : (a b : Bool) → (a && b) ≡ true → a ≡ true
first_true true b h = refl
first_true false b h = cc

converted : (tag : TagD) (d : ReadData) (t : TypeModel) → same_type (newtype_type d) t ≡ true → rule_at_newtype true (body_model tag d) ≡ true
converted tag (read_enum vs) t h = absurd (not_outside t h)
converted tag (read_struct Struct fs) t h = absurd (not_outside t h)
converted tag (read_struct Tuple fs) t h = absurd (not_outside t h)
converted tag (read_struct NoFields fs) t h = absurd (not_outside t h)
converted tag (read_struct Newtype []) t h = absurd (not_outside t h)
converted tag (read_struct Newtype (f ∷ [])) t h = refl
converted tag (read_struct Newtype (f ∷ g ∷ fs)) t h = absurd (not_outside t h)

plain : (tag : TagD) (d : ReadData) → struct_is lacks_row d ≡ false → rule_at_newtype false (body_model tag d) ≡ true
plain tag (read_enum vs) h = refl
plain tag (read_struct Struct fs) h = refl
plain tag (read_struct Newtype fs) h = refl
plain tag (read_struct Tuple fs) h = absurd (true≢false h)
plain tag (read_struct NoFields fs) h = absurd (true≢false h)

ruled : (tag : TagD) (d : ReadData) (alone : Bool) (o : Option TyD) → struct_is lacks_row d ≡ false → fails (λ t. same_type (newtype_type d) (type_of t) && alone) o ≡ false → rule_at_newtype (is_some o) (body_model tag d) ≡ true
ruled tag d alone None h k = plain tag d h
ruled tag d alone (Some t) h k = converted tag d (type_of t) (first_true (same_type (newtype_type d) (type_of t)) alone (true_of_not (same_type (newtype_type d) (type_of t) && alone) k))

-- ---- what is known of a container within the forms

module _ (items : List (List ℕ)) (k : ConversionsD) where
  abbrev causes : List (ReadContainer → Bool)
  causes =
      forms.is_generic
      ∷ forms.is_remote
      ∷ forms.has_from
      ∷ forms.has_into
      ∷ forms.has_a_getter
      ∷ forms.has_bound
      ∷ forms.has_container_default
      ∷ forms.is_tagged_struct
      ∷ forms.is_an_identifier
      ∷ forms.has_other
      ∷ forms.has_untagged_variant
      ∷ forms.has_skip
      ∷ forms.has_serialize_with
      ∷ forms.has_other_deserialize_with
      ∷ forms.has_other_condition
      ∷ forms.has_unknown_default items k
      ∷ forms.has_odd_flatten
      ∷ forms.has_odd_rest
      ∷ forms.is_transparent_with_names
      ∷ forms.has_odd_try_from items k
      ∷ forms.has_nameless_extras
      ∷ forms.has_unknown_type items k
      ∷ forms.is_named_twice items k
      ∷ forms.has_some_elsewhere
      ∷ forms.has_whole_with_default
      ∷ forms.has_text_rule_elsewhere items k
      ∷ forms.has_repeated_name
      ∷ forms.has_unread_beside_rest
      ∷ forms.has_half_emptiness
      ∷ forms.has_no_row
      ∷ []

  record Kept (c : ReadContainer) : Type 0 where
    untagged_variant : forms.has_untagged_variant c ≡ false
    skip : forms.has_skip c ≡ false
    try_from : forms.has_odd_try_from items k c ≡ false
    row : forms.has_no_row c ≡ false

  kept_of : (c : ReadContainer) → NoneOf (λ is. is c) causes → Kept c
  kept_of c n = record {
    untagged_variant = n.1.1.1.1.1.1.1.1.1.1.0;
    skip = n.1.1.1.1.1.1.1.1.1.1.1.0;
    try_from = n.1.1.1.1.1.1.1.1.1.1.1.1.1.1.1.1.1.1.1.0;
    row = n.1.1.1.1.1.1.1.1.1.1.1.1.1.1.1.1.1.1.1.1.1.1.1.1.1.1.1.1.1.0;
  }

  kept : (c : ReadContainer) → is_outside items k c ≡ false → Kept c
  kept c h = kept_of c (none_of (λ is. is c) causes h)

-- ---- beside an internal tag

field_beside : (t : List ℕ) (v : ReadVariant) (f : ReadField) → v.attrs.skip_serializing ≡ false → f.attrs.skip_serializing ≡ false → (is_written_as t v f || is_read_as t v f) ≡ false → bytes_eq t f.attrs.name.serialize.text ≡ false
field_beside t v f a b h =
    turned f.attrs.name.serialize.text t ((λ i. not (sym b i || sym a i) && has_text t f.attrs.name.serialize) ∙ first_false (is_written_as t v f) (is_read_as t v f) h)

or_not : (a b : Bool) → b ≡ false → (a || not b) ≡ true
or_not true b h = refl
or_not false b h = ap not h

abbrev skipped : ReadField → Bool
skipped f = f.attrs.skip_serializing || f.attrs.skip_deserializing

fields_beside : (t : List ℕ) (v : ReadVariant) (fs : List ReadField) → v.attrs.skip_serializing ≡ false → list_any skipped fs ≡ false → list_any (λ f. is_written_as t v f || is_read_as t v f) fs ≡ false
    → list_all (λ f. f.is_rest || not (bytes_eq t f.serialize_name)) (map field_model fs) ≡ true
fields_beside t v [] a b h = refl
fields_beside t v (f ∷ fs) a b h =
    both_true (f.attrs.flatten || not (bytes_eq t f.attrs.name.serialize.text)) (list_all (λ g. g.is_rest || not (bytes_eq t g.serialize_name)) (map field_model fs))
    (or_not f.attrs.flatten (bytes_eq t f.attrs.name.serialize.text) (field_beside t v f a (first_false f.attrs.skip_serializing f.attrs.skip_deserializing (first_false (skipped f) (list_any skipped fs) b)) (first_false (is_written_as t v f || is_read_as t v f) (list_any (λ g. is_written_as t v g || is_read_as t v g) fs) h)))
    (fields_beside t v fs a (then_false (skipped f) (list_any skipped fs) b) (then_false (is_written_as t v f || is_read_as t v f) (list_any (λ g. is_written_as t v g || is_read_as t v g) fs) h))

variant_beside : (t : List ℕ) (v : ReadVariant) (s : Style) → v.style ≡ s → v.attrs.untagged ≡ false → v.attrs.skip_serializing ≡ false → list_any skipped v.fields ≡ false → has_tag_name t v ≡ false → not (stands_beside (internal t) v.style) ≡ false
    → has_shape (style_model v.style) (map field_model v.fields) ≡ true → is_beside t (variant_model v) ≡ true
variant_beside t v Struct e u a b h k g = fields_beside t v v.fields a b ((λ i. is_struct (sym e i) && (not (sym u i) && list_any (λ f. is_written_as t v f || is_read_as t v f) v.fields)) ∙ h)
variant_beside t v NoFields e u a b h k g = by (map field_model v.fields) (ap (λ z. has_shape (style_model z) (map field_model v.fields)) (sym e) ∙ g) where
  by : (fs : List Rattle.model_defs.specs.Model.FieldModel) → has_shape Rattle.model_defs.specs.Model.unit_style fs ≡ true → list_all (λ f. f.is_rest || not (bytes_eq t f.serialize_name)) fs ≡ true
  by [] q = refl
  by (f ∷ fs) q = absurd (true≢false (sym q))
variant_beside t v Tuple e u a b h k g = absurd (true≢false (ap (λ z. not (stands_beside (internal t) z)) (sym e) ∙ k))
variant_beside t v Newtype e u a b h k g = absurd (true≢false (ap (λ z. not (stands_beside (internal t) z)) (sym e) ∙ k))

abbrev vskip : ReadVariant → Bool
vskip v = v.attrs.skip_serializing || v.attrs.skip_deserializing

variants_beside : (t : List ℕ) (vs : List ReadVariant) → list_any (λ v. v.attrs.untagged) vs ≡ false → list_any vskip vs ≡ false → list_any skipped (flat_map (λ v. v.fields) vs) ≡ false → list_any (has_tag_name t) vs ≡ false
    → list_any (λ v. not (stands_beside (internal t) v.style)) vs ≡ false → list_all (λ w. has_shape w.style w.fields) (map variant_model vs) ≡ true → list_all (is_beside t) (map variant_model vs) ≡ true
variants_beside t [] u a b h k g = refl
variants_beside t (v ∷ vs) u a b h k g =
    both_true (is_beside t (variant_model v)) (list_all (is_beside t) (map variant_model vs))
    (variant_beside t v v.style refl (first_false v.attrs.untagged (list_any (λ w. w.attrs.untagged) vs) u) (first_false v.attrs.skip_serializing v.attrs.skip_deserializing (first_false (vskip v) (list_any vskip vs) a)) (front_none skipped v.fields (flat_map (λ w. w.fields) vs) b)
    (first_false (has_tag_name t v) (list_any (has_tag_name t) vs) h) (first_false (not (stands_beside (internal t) v.style)) (list_any (λ w. not (stands_beside (internal t) w.style)) vs) k)
    (first_true (has_shape (style_model v.style) (map field_model v.fields)) (list_all (λ w. has_shape w.style w.fields) (map variant_model vs)) g))
    (variants_beside t vs (then_false v.attrs.untagged (list_any (λ w. w.attrs.untagged) vs) u) (then_false (vskip v) (list_any vskip vs) a) (back_none skipped v.fields (flat_map (λ w. w.fields) vs) b)
    (then_false (has_tag_name t v) (list_any (has_tag_name t) vs) h) (then_false (not (stands_beside (internal t) v.style)) (list_any (λ w. not (stands_beside (internal t) w.style)) vs) k)
    (then_true (has_shape (style_model v.style) (map field_model v.fields)) (list_all (λ w. has_shape w.style w.fields) (map variant_model vs)) g)) where
      then_true : (a b : Bool) → (a && b) ≡ true → b ≡ true
      then_true true b h = h
      then_true false b h = cc

-- ---- bodies

record Facts (tag : TagD) (d : ReadData) : Type 0 where
  untagged_variant : list_any (λ v. v.attrs.untagged) (variants_in d) ≡ false
  skip : (list_any vskip (variants_in d) || list_any skipped (all_fields d)) ≡ false
  row : (struct_is lacks_row d || list_any (λ v. not (stands_beside tag v.style)) (variants_in d)) ≡ false
  shape : body_has_shape (body_model tag d) ≡ true

tag_tame : (tag : TagD) (c : ReadContainer) (vs : List ReadVariant) → c.body ≡ read_enum vs → Facts tag (read_enum vs) → checks.tag_conflict_by tag c ≡ [] → checks.same_tags_by tag (at_item c) ≡ [] → is_tag_tame (tag_model tag) (map variant_model vs) ≡ true
tag_tame external c vs e f h k = refl
tag_tame untagged c vs e f h k = refl
tag_tame (internal t) c vs e f h k =
    variants_beside t vs f.untagged_variant (first_false (list_any vskip vs) (list_any skipped (flat_map (λ v. v.fields) vs)) f.skip) (then_false (list_any vskip vs) (list_any skipped (flat_map (λ v. v.fields) vs)) f.skip)
    (ap (λ d. list_any (has_tag_name t) (variants_in d)) (sym e) ∙ not_told (list_any (has_tag_name t) (variants_in c.body)) (tag_conflict t) (at_item c) h) f.row f.shape
tag_tame (adjacent t u) c vs e f h k = ap not (not_told (bytes_eq t u) (same_tags t) (at_item c) k)

same_enum : (derive : Derive) (b : Bool) (vs : List ReadVariant) → cond b (mark_in derive (read_enum vs)) (read_enum vs) ≡ read_enum vs
same_enum derive true vs = refl
same_enum derive false vs = refl

body_tame : (derive : Derive) (tag : TagD) (b : Bool) (c : ReadContainer) (d : ReadData) → c.body ≡ d → Facts tag (cond b (mark_in derive d) d) → checks.tag_conflict_by tag c ≡ [] → checks.same_tags_by tag (at_item c) ≡ []
    → is_body_tame (body_model tag (cond b (mark_in derive d) d)) ≡ true
body_tame derive tag b c (read_enum vs) e f h k =
    ap (λ z. is_body_tame (body_model tag z)) (same_enum derive b vs) ∙ tag_tame tag c vs e (subst (Facts tag) (same_enum derive b vs) f) h k
body_tame derive tag true c (read_struct Struct fs) e f h k = refl
body_tame derive tag true c (read_struct Tuple fs) e f h k = refl
body_tame derive tag true c (read_struct Newtype fs) e f h k = refl
body_tame derive tag true c (read_struct NoFields fs) e f h k = refl
body_tame derive tag false c (read_struct s fs) e f h k = refl

-- ---- containers

module _ (derive : Derive) (c : ReadContainer) where
  abbrev told : List (ReadContainer → List DiagnosticD) → List DiagnosticD
  told cs = flat_map (λ check. check c) cs

  abbrev last : List (ReadContainer → List DiagnosticD)
  last = checks.check_from_and_try_from ∷ []

  abbrev from_9 : List (ReadContainer → List DiagnosticD)
  from_9 = check_transparent derive ∷ last

  abbrev from_8 : List (ReadContainer → List DiagnosticD)
  from_8 = check_adjacent_tag_conflict ∷ from_9

  abbrev from_7 : List (ReadContainer → List DiagnosticD)
  from_7 = check_internal_tag_field_name_conflict ∷ from_8

  abbrev from_6 : List (ReadContainer → List DiagnosticD)
  from_6 = checks.check_variant_skip_attrs ∷ from_7

  abbrev from_5 : List (ReadContainer → List DiagnosticD)
  from_5 = checks.check_identifier ∷ from_6

  abbrev from_4 : List (ReadContainer → List DiagnosticD)
  from_4 = checks.check_flatten ∷ from_5

  abbrev from_3 : List (ReadContainer → List DiagnosticD)
  from_3 = checks.check_getter ∷ from_4

  abbrev from_2 : List (ReadContainer → List DiagnosticD)
  from_2 = checks.check_remote_generic ∷ from_3

  seventh : checks_told derive c ≡ [] → told from_7 ≡ []
  seventh h =
      right_empty (checks.check_variant_skip_attrs c) (told from_7) (right_empty (checks.check_identifier c) (told from_6) (right_empty (checks.check_flatten c) (told from_5)
      (right_empty (checks.check_getter c) (told from_4) (right_empty (checks.check_remote_generic c) (told from_3) (right_empty (checks.check_default_on_tuple c) (told from_2) h)))))

  no_conflict : checks_told derive c ≡ [] → checks.tag_conflict_by c.attrs.tag c ≡ []
  no_conflict h = left_empty (check_internal_tag_field_name_conflict c) (told from_8) (seventh h)

  no_same : checks_told derive c ≡ [] → checks.same_tags_by c.attrs.tag (at_item c) ≡ []
  no_same h = left_empty (check_adjacent_tag_conflict c) (told from_9) (right_empty (check_internal_tag_field_name_conflict c) (told from_8) (seventh h))

  no_transparent : checks_told derive c ≡ [] → cond c.attrs.transparent (checks.transparent_told derive c) [] ≡ []
  no_transparent h = left_empty (check_transparent derive c) (told last) (right_empty (check_adjacent_tag_conflict c) (told from_9) (right_empty (check_internal_tag_field_name_conflict c) (told from_8) (seventh h)))

  free_by : (b : Bool) → cond b (checks.transparent_told derive c) [] ≡ [] → not (b && is_some c.attrs.type_try_from) ≡ true
  free_by false h = refl
  free_by true h =
      ap not (not_told (is_some c.attrs.type_try_from) transparent_try_from (at_item c)
      (left_empty (told_if (is_some c.attrs.type_try_from) transparent_try_from (at_item c)) (told_if (is_some c.attrs.type_into) Rattle.attr_parts.specs.Diagnostics.transparent_into (at_item c))
      (right_empty (told_if (is_some c.attrs.type_from) Rattle.attr_parts.specs.Diagnostics.transparent_from (at_item c)) _ (left_empty (types_told c) (checks.transparent_in derive c.body (at_item c)) h))))

  module _ (items : List (List ℕ)) (k : ConversionsD) where
    container_tame : is_outside items k (marked derive c) ≡ false → body_has_shape (reader_model (marked derive c)).body ≡ true → checks_told derive c ≡ [] → is_tame (reader_model (marked derive c)) ≡ true
    container_tame h s d =
        let f = kept items k (marked derive c) h in
        let b : ReadData = cond c.attrs.transparent (mark_in derive c.body) c.body in
        let facts : Facts c.attrs.tag b = record { untagged_variant = f.untagged_variant; skip = f.skip; row = f.row; shape = s } in
        both_true (rule_at_newtype (is_some c.attrs.type_try_from) (body_model c.attrs.tag b)) (not (c.attrs.transparent && is_some c.attrs.type_try_from) && is_body_tame (body_model c.attrs.tag b))
        (ruled c.attrs.tag b (checks.is_one (rules_of items k (marked derive c))) c.attrs.type_try_from (first_false (struct_is lacks_row b) (list_any (λ v. not (stands_beside c.attrs.tag v.style)) (variants_in b)) f.row) f.try_from)
        (both_true (not (c.attrs.transparent && is_some c.attrs.type_try_from)) (is_body_tame (body_model c.attrs.tag b)) (free_by c.attrs.transparent (no_transparent d)) (body_tame derive c.attrs.tag c.attrs.transparent c c.body refl facts (no_conflict d) (no_same d)))

-- ---- items

one_by : (a b : Bool) → (not a && b) ≡ true → a ≡ false
one_by true b h = cc
one_by false b h = refl

more_by : (a b : Bool) → (not a && b) ≡ true → b ≡ true
more_by true b h = cc
more_by false b h = h

module _ (lexing : Lexing) (v f : Meaning) (private : Name) (derive : Derive) (k : ConversionsD) (items : List (List ℕ)) where
  abbrev read : ItemD → Option ReadContainer
  read i = model_of lexing v f private i derive

  abbrev IsTameThere : Option ReadContainer → Type 0
  IsTameThere None = Unit {0}
  IsTameThere (Some c) = is_tame (reader_model c) ≡ true

  tame_by : (i : ItemD) (o : Option ReadData) → HasShape lexing v f private derive i o → leaves_forms items k (option_map (marked derive) (option_map (container_with lexing v f private i) o)) ≡ false
      → told_at_last derive i (option_map (container_with lexing v f private i) o) ≡ [] → IsTameThere (option_map (marked derive) (option_map (container_with lexing v f private i) o))
  tame_by i None s h d = tt
  tame_by i (Some b) s h d = container_tame derive (container_with lexing v f private i b) items k h s d

  abbrev diagnosed : ItemD → List DiagnosticD
  diagnosed i = diagnostics_of lexing v f private i derive

  tame_of : (i : ItemD) → leaves_forms items k (read i) ≡ false → diagnosed i ≡ [] → IsTameThere (read i)
  tame_of i h d =
      tame_by i (data_of lexing private (container_attrs lexing i).default i.body) (data_shape lexing v f private derive i i.body) h
      (right_empty (members_told lexing i.body) (told_at_last derive i (container_of lexing v f private i)) (right_empty (container_diagnostics lexing i) (members_told lexing i.body ++ told_at_last derive i (container_of lexing v f private i)) d))

  add : (o : Option ReadContainer) (ms : List ContainerModel) → IsTameThere o → list_all is_tame ms ≡ true → list_all is_tame (cons_option (option_map reader_model o) ms) ≡ true
  add None ms p q = q
  add (Some c) ms p q = both_true (is_tame (reader_model c)) (list_all is_tame ms) p q

  models_tame : (is : List ItemD) → list_all (λ i. not (leaves_forms items k (read i))) is ≡ true → flat_map diagnosed is ≡ [] → list_all is_tame (filter_map (λ i. option_map reader_model (read i)) is) ≡ true
  models_tame [] h d = refl
  models_tame (i ∷ is) h d =
      let others = list_all (λ j. not (leaves_forms items k (read j))) is in
      add (read i) (filter_map (λ j. option_map reader_model (read j)) is) (tame_of i (one_by (leaves_forms items k (read i)) others h) (left_empty (diagnosed i) (flat_map diagnosed is) d))
      (models_tame is (more_by (leaves_forms items k (read i)) others h) (right_empty (diagnosed i) (flat_map diagnosed is) d))

pub items_tame : (lexing : Lexing) (v f : Meaning) (private : Name) (derive : Derive) (k : ConversionsD) (is : List ItemD) → flat_map (λ i. diagnostics_of lexing v f private i derive) is ≡ []
    → are_inside lexing v f private derive k is ≡ true → IsTame (item_models lexing v f private derive is)
items_tame lexing v f private derive k is d h =
    let a = items_fit lexing v f private derive k is h in
    record { fit = a.fit; shapes = a.shapes; rules = a.rules; tame = models_tame lexing v f private derive k (names_of is) is h d }
