-- Items of which nothing is told and that are within the forms are fitted.
use Rattle.std.proofs.Common.{◌≡◌, ℕ, List, [], ◌∷◌, ◌++◌, map, cond, Bool, true, false, not, ◌&&◌, ◌||◌, Option, Some, None, option_map, is_some, refl, sym, ap, ◌∙◌, subst, true≢false, bytes_eq}
use Rattle.std.specs.List.{list_any, list_all, filter, flat_map, filter_map, cons_option}
use Rattle.std.proofs.lemmas.Slice.Eq.{bytes_eq-Decides}
use Rattle.token_trees.specs.Token.{Name}
use Rattle.syntax_trees.specs.Item.{ItemD}
use Rattle.attr_parts.specs.declared.derive.Derive.{Derive}
use Rattle.attr_parts.specs.Diagnostics.{DiagnosticD, KindD, tag_conflict, same_tags}
use Rattle.attr_parts.specs.Values.{TagD, external, internal, adjacent, untagged}
use Rattle.attr_defs.specs.Container.{container_attrs, container_diagnostics}
use Rattle.attr_defs.specs.Renames.{Meaning}
use Rattle.attr_defs.specs.Texts.{Lexing}
use Rattle.model_defs.specs.Types.{TypeModel, boolean_type, integer_type, text_type, native_type, any_type, unit_type, option_type, boxed_type, vec_type, set_type, map_type, tuple_type, array_type, item_type, outside_type}
use Rattle.type_spellings.specs.Types.{type_of}
use Rattle.model_defs.specs.Model.{ConversionsD, ConstraintD, RuleD, text_rule, allow_rule, deny_rule, rule_of, BodyModel, ContainerModel}
use Rattle.container_defs.specs.declared.style.Style.{Style}
use Rattle.container_defs.specs.declared.style.Style.TheVariants.{Struct, Tuple, Newtype, Unit as NoFields}
use Rattle.container_defs.specs.Checks.{told_if, at_item, has_text, is_written_as, is_read_as, is_struct, has_tag_name, check_default_on_tuple, check_remote_generic, check_getter, check_flatten, check_identifier, check_variant_skip_attrs, tag_conflict_by, same_tags_by, check_internal_tag_field_name_conflict, check_adjacent_tag_conflict, check_transparent, check_from_and_try_from, all_checks, checks_told, mark_in, marked, variants_in}
use Rattle.container_defs.specs.Container.{ReadField, ReadVariant, ReadData, read_enum, read_struct, ReadContainer, all_fields}
use Rattle.container_defs.specs.Model.{members_told, told_at_last, model_of, diagnostics_of}
use Rattle.container_defs.specs.Reading.{data_of, container_with, container_of}
use Rattle.container_defs.specs.Reader.{read_names, field_model, style_model, variant_model, tag_model, body_model, reader_model, item_model, item_models}
use Rattle.container_defs.specs.Forms as forms
use Rattle.container_defs.specs.Forms.{names_of, is_outside, leaves_forms, are_inside, rules_of, is_text_rule, newtype_type}
use Rattle.example_defs.specs.Built.{inner_type}
use Rattle.example_laws.specs.Fitted.{is_text_type, is_rule_fit, is_other, names_pass, stands_apart, are_tags_fit, are_names_texts, IsFitted}
use Rattle.form_laws.specs.Laws.{AreFit}
use Rattle.form_laws.proofs.Inside.{items_fit}
use Rattle.form_laws.proofs.Fields.{first_false, then_false, true_of_not, both_true}
use Rattle.fitted_laws.specs.Laws.{ItemsInsideAreFitted}

turned : (a b : List ℕ) → bytes_eq a b ≡ bytes_eq b a
turned a b = elim (bytes_eq a b) as (λ x. bytes_eq a b ≡ x → x ≡ bytes_eq b a) [
  | true ↦ λ e. sym ((bytes_eq-Decides b a).1 (sym ((bytes_eq-Decides a b).0 e)))
  | false ↦ λ e. elim (bytes_eq b a) as (λ y. bytes_eq b a ≡ y → false ≡ y) [
    | true ↦ λ f. absurd (true≢false (sym ((bytes_eq-Decides a b).1 (sym ((bytes_eq-Decides b a).0 f))) ∙ e))
    | false ↦ λ f. refl
  ] refl
] refl

module _ {A : Type 0} (test : A → Bool) where
  front_none : (xs ys : List A) → list_any test (xs ++ ys) ≡ false → list_any test xs ≡ false
  front_none [] ys h = refl
  front_none (x ∷ xs) ys h = ap (λ b. b || list_any test xs) (first_false (test x) (list_any test (xs ++ ys)) h) ∙ front_none xs ys (then_false (test x) (list_any test (xs ++ ys)) h)

  back_none : (xs ys : List A) → list_any test (xs ++ ys) ≡ false → list_any test ys ≡ false
  back_none [] ys h = h
  back_none (x ∷ xs) ys h = back_none xs ys (then_false (test x) (list_any test (xs ++ ys)) h)

-- ---- rules on texts

text_like : (t : TypeModel) → forms.is_text t ≡ true → is_text_type t ≡ true
text_like boolean_type h = h
text_like (integer_type g) h = h
text_like text_type h = h
text_like (native_type f) h = h
text_like any_type h = h
text_like unit_type h = h
text_like (option_type t) h = h
text_like (boxed_type t) h = h
text_like (vec_type t) h = h
text_like (set_type t) h = h
text_like (map_type k t) h = h
text_like (tuple_type ts) h = h
text_like (array_type t n) h = h
text_like (item_type n) h = h
text_like outside_type h = h

text_inside : (tag : TagD) (d : ReadData) → forms.is_text (newtype_type d) ≡ true → is_text_type (inner_type (body_model tag d)) ≡ true
text_inside tag (read_enum vs) h = h
text_inside tag (read_struct Struct fs) h = h
text_inside tag (read_struct Tuple fs) h = h
text_inside tag (read_struct NoFields fs) h = h
text_inside tag (read_struct Newtype []) h = h
text_inside tag (read_struct Newtype (f ∷ [])) h = text_like (type_of f.ty) h
text_inside tag (read_struct Newtype (f ∷ g ∷ fs)) h = h

or_then : (a b : Bool) → b ≡ true → (a || b) ≡ true
or_then true b h = refl
or_then false b h = h

-- a rule on texts that is found is among those of the name
rule_among : (n : List ℕ) (ks : List ConstraintD) (o : Option RuleD) → rule_of n ks ≡ o → forms.holds is_text_rule o ≡ true → list_any (λ k. is_text_rule k.rule) (filter (λ k. bytes_eq k.item n) ks) ≡ true
rule_among n [] o e h = absurd (true≢false (sym h ∙ ap (forms.holds is_text_rule) (sym e)))
rule_among n (k ∷ ks) o e h = by (bytes_eq n k.item) (turned k.item n) (rule_among n ks o) e
  where
    by : (b : Bool) → bytes_eq k.item n ≡ b → (rule_of n ks ≡ o → forms.holds is_text_rule o ≡ true → list_any (λ k. is_text_rule k.rule) (filter (λ k. bytes_eq k.item n) ks) ≡ true)
        → cond b (Some k.rule) (rule_of n ks) ≡ o → list_any (λ k. is_text_rule k.rule) (cond (bytes_eq k.item n) (k ∷ filter (λ k. bytes_eq k.item n) ks) (filter (λ k. bytes_eq k.item n) ks)) ≡ true
    by true q rec f =
        let here : is_text_rule k.rule ≡ true = ap (forms.holds is_text_rule) f ∙ h in
        ap (λ b. list_any (λ k. is_text_rule k.rule) (cond b (k ∷ filter (λ k. bytes_eq k.item n) ks) (filter (λ k. bytes_eq k.item n) ks))) q
        ∙ ap (λ b. b || list_any (λ k. is_text_rule k.rule) (filter (λ k. bytes_eq k.item n) ks)) here
    by false q rec f = ap (λ b. list_any (λ k. is_text_rule k.rule) (cond b (k ∷ filter (λ k. bytes_eq k.item n) ks) (filter (λ k. bytes_eq k.item n) ks))) q ∙ rec f h

rule_fits : (b : BodyModel) (o : Option RuleD) → (forms.holds is_text_rule o ≡ true → is_text_type (inner_type b) ≡ true) → is_rule_fit b o ≡ true
rule_fits b None f = refl
rule_fits b (Some (text_rule t)) f = f refl
rule_fits b (Some (allow_rule vs)) f = refl
rule_fits b (Some (deny_rule vs)) f = refl

-- given that a rule on texts stands nowhere else
texts_fit : (tag : TagD) (d : ReadData) (n : List ℕ) (ks : List ConstraintD) (converted : Bool)
    → (converted && list_any (λ k. is_text_rule k.rule) (filter (λ k. bytes_eq k.item n) ks) && not (forms.is_text (newtype_type d))) ≡ false
    → (not converted || is_rule_fit (body_model tag d) (rule_of n ks)) ≡ true
texts_fit tag d n ks false h = refl
texts_fit tag d n ks true h = rule_fits (body_model tag d) (rule_of n ks) (λ e. text_inside tag d (by (list_any (λ k. is_text_rule k.rule) (filter (λ k. bytes_eq k.item n) ks)) (rule_among n ks (rule_of n ks) refl e) h))
  where
    by : (a : Bool) → a ≡ true → (a && not (forms.is_text (newtype_type d))) ≡ false → forms.is_text (newtype_type d) ≡ true
    by true e h = true_of_not (forms.is_text (newtype_type d)) h
    by false e h = absurd (true≢false (sym e))

-- ---- tags

not_skipped : (a b c : Bool) → (a || b) ≡ false → (not (a || b) && c) ≡ false → c ≡ false
not_skipped true b c h k = cc
not_skipped false true c h k = cc
not_skipped false false c h k = k

others_named : (t : List ℕ) (ns : List Name) → list_any (has_text t) ns ≡ false → list_all (is_other t) (map (λ n. n.text) ns) ≡ true
others_named t [] h = refl
others_named t (n ∷ ns) h =
    both_true (is_other t n.text) (list_all (is_other t) (map (λ n. n.text) ns)) (ap not (turned t n.text ∙ first_false (has_text t n) (list_any (has_text t) ns) h)) (others_named t ns (then_false (has_text t n) (list_any (has_text t) ns) h))

module _ (t : List ℕ) (v : ReadVariant) (kept : v.attrs.skip_deserializing ≡ false) where
  fields_apart : (fs : List ReadField) → list_any (λ f. f.attrs.skip_serializing || f.attrs.skip_deserializing) fs ≡ false → list_any (λ f. is_written_as t v f || is_read_as t v f) fs ≡ false
      → names_pass (is_other t) (map field_model fs) ≡ true
  fields_apart [] s h = refl
  fields_apart (f ∷ fs) s h =
      let skip = then_false f.attrs.skip_serializing f.attrs.skip_deserializing (first_false (f.attrs.skip_serializing || f.attrs.skip_deserializing) (list_any (λ f. f.attrs.skip_serializing || f.attrs.skip_deserializing) fs) s) in
      let read = then_false (is_written_as t v f) (is_read_as t v f) (first_false (is_written_as t v f || is_read_as t v f) (list_any (λ f. is_written_as t v f || is_read_as t v f) fs) h) in
      both_true (list_all (is_other t) (read_names f.attrs.name)) (names_pass (is_other t) (map field_model fs))
      (others_named t f.attrs.name.aliases (not_skipped f.attrs.skip_deserializing v.attrs.skip_deserializing (list_any (has_text t) f.attrs.name.aliases) (λ i. skip i || kept i) read))
      (fields_apart fs (then_false (f.attrs.skip_serializing || f.attrs.skip_deserializing) (list_any (λ f. f.attrs.skip_serializing || f.attrs.skip_deserializing) fs) s)
      (then_false (is_written_as t v f || is_read_as t v f) (list_any (λ f. is_written_as t v f || is_read_as t v f) fs) h))

variant_apart : (t : List ℕ) (v : ReadVariant) → not (forms.stands_beside (internal t) v.style) ≡ false → v.attrs.untagged ≡ false → v.attrs.skip_deserializing ≡ false
    → list_any (λ f. f.attrs.skip_serializing || f.attrs.skip_deserializing) v.fields ≡ false → has_tag_name t v ≡ false → stands_apart t (style_model v.style) (map field_model v.fields) ≡ true
variant_apart t v beside tagged kept fields named = by v.style beside named
  where
    by : (s : Style) → not (forms.stands_beside (internal t) s) ≡ false → (is_struct s && (not v.attrs.untagged && list_any (λ f. is_written_as t v f || is_read_as t v f) v.fields)) ≡ false
        → stands_apart t (style_model s) (map field_model v.fields) ≡ true
    by Struct b h = fields_apart t v kept v.fields fields (ap (λ u. not u && list_any (λ f. is_written_as t v f || is_read_as t v f) v.fields) (sym tagged) ∙ h)
    by NoFields b h = refl
    by Tuple b h = absurd (true≢false b)
    by Newtype b h = absurd (true≢false b)

variants_apart : (t : List ℕ) (vs : List ReadVariant) → list_any (λ v. not (forms.stands_beside (internal t) v.style)) vs ≡ false → list_any (λ v. v.attrs.untagged) vs ≡ false
    → list_any (λ v. v.attrs.skip_serializing || v.attrs.skip_deserializing) vs ≡ false → list_any (λ f. f.attrs.skip_serializing || f.attrs.skip_deserializing) (flat_map (λ v. v.fields) vs) ≡ false
    → list_any (has_tag_name t) vs ≡ false → list_all (λ w. stands_apart t w.style w.fields) (map variant_model vs) ≡ true
variants_apart t [] b u s f n = refl
variants_apart t (v ∷ vs) b u s f n =
    both_true (stands_apart t (style_model v.style) (map field_model v.fields)) (list_all (λ w. stands_apart t w.style w.fields) (map variant_model vs))
    (variant_apart t v (first_false (not (forms.stands_beside (internal t) v.style)) (list_any (λ v. not (forms.stands_beside (internal t) v.style)) vs) b) (first_false v.attrs.untagged (list_any (λ v. v.attrs.untagged) vs) u)
    (then_false v.attrs.skip_serializing v.attrs.skip_deserializing (first_false (v.attrs.skip_serializing || v.attrs.skip_deserializing) (list_any (λ v. v.attrs.skip_serializing || v.attrs.skip_deserializing) vs) s))
    (front_none (λ f. f.attrs.skip_serializing || f.attrs.skip_deserializing) v.fields (flat_map (λ v. v.fields) vs) f) (first_false (has_tag_name t v) (list_any (has_tag_name t) vs) n))
    (variants_apart t vs (then_false (not (forms.stands_beside (internal t) v.style)) (list_any (λ v. not (forms.stands_beside (internal t) v.style)) vs) b) (then_false v.attrs.untagged (list_any (λ v. v.attrs.untagged) vs) u)
    (then_false (v.attrs.skip_serializing || v.attrs.skip_deserializing) (list_any (λ v. v.attrs.skip_serializing || v.attrs.skip_deserializing) vs) s)
    (back_none (λ f. f.attrs.skip_serializing || f.attrs.skip_deserializing) v.fields (flat_map (λ v. v.fields) vs) f) (then_false (has_tag_name t v) (list_any (has_tag_name t) vs) n))

none_told : (b : Bool) (k : KindD) (c : ReadContainer) → told_if b k (at_item c) ≡ [] → b ≡ false
none_told true k c h = cc
none_told false k c h = refl

nothing_left : {A : Type 0} (xs ys : List A) → xs ++ ys ≡ [] → xs ≡ []
nothing_left [] ys h = refl
nothing_left (x ∷ xs) ys h = cc

nothing_right : {A : Type 0} (xs ys : List A) → xs ++ ys ≡ [] → ys ≡ []
nothing_right [] ys h = h
nothing_right (x ∷ xs) ys h = cc

-- ---- what forms ask of a container, as far as it bears on tags and rules

abbrev NoneOf : {A : Type 0} → (A → Bool) → List A → Type 0
NoneOf test [] = Unit {0}
NoneOf test (a ∷ xs) = (test a ≡ false) × NoneOf test xs

none_of : {A : Type 0} (test : A → Bool) (xs : List A) → list_any test xs ≡ false → NoneOf test xs
none_of test [] h = tt
none_of test (a ∷ xs) h = (first_false (test a) (list_any test xs) h, none_of test xs (then_false (test a) (list_any test xs) h))

module _ (items : List (List ℕ)) (k : ConversionsD) where
  abbrev from_try_from : List (ReadContainer → Bool)
  from_try_from =
      forms.has_odd_try_from items k
      ∷ forms.has_nameless_extras
      ∷ forms.has_unknown_type items k
      ∷ forms.is_named_twice items k
      ∷ forms.has_some_elsewhere
      ∷ forms.has_whole_with_default
      ∷ forms.has_text_rule_elsewhere items k
      ∷ forms.has_repeated_name
      ∷ forms.has_unread_beside_rest
      ∷ forms.has_half_emptiness
      ∷ forms.has_no_row
      ∷ []

  abbrev from_untagged : List (ReadContainer → Bool)
  from_untagged =
      forms.has_untagged_variant
      ∷ forms.has_skip
      ∷ forms.has_serialize_with
      ∷ forms.has_other_deserialize_with
      ∷ forms.has_other_condition
      ∷ forms.has_unknown_default items k
      ∷ forms.has_odd_flatten
      ∷ forms.has_odd_rest
      ∷ forms.is_transparent_with_names
      ∷ from_try_from

  abbrev causes : List (ReadContainer → Bool)
  causes =
      forms.is_generic
      ∷ forms.is_remote
      ∷ forms.has_from
      ∷ forms.has_into
      ∷ forms.has_a_getter
      ∷ forms.has_bound
      ∷ forms.has_container_default
      ∷ forms.is_tagged_struct
      ∷ forms.is_an_identifier
      ∷ forms.has_other
      ∷ from_untagged

  record Kept (c : ReadContainer) : Type 0 where
    untagged : forms.has_untagged_variant c ≡ false
    skip : forms.has_skip c ≡ false
    texts : forms.has_text_rule_elsewhere items k c ≡ false
    row : forms.has_no_row c ≡ false

  behind_other : (c : ReadContainer) → NoneOf (λ is. is c) causes → NoneOf (λ is. is c) from_untagged
  behind_other c n = n.1.1.1.1.1.1.1.1.1.1

  behind_names : (c : ReadContainer) → NoneOf (λ is. is c) from_untagged → NoneOf (λ is. is c) from_try_from
  behind_names c n = n.1.1.1.1.1.1.1.1.1

  kept : (c : ReadContainer) → is_outside items k c ≡ false → Kept c
  kept c h =
      let a = behind_other c (none_of (λ is. is c) causes h) in
      let b = behind_names c a in
      record { untagged = a.0; skip = a.1.0; texts = b.1.1.1.1.1.1.0; row = b.1.1.1.1.1.1.1.1.1.1.0 }

  -- ---- tags of a container that was checked

  struct_marked : (tag : TagD) (derive : Derive) (b : Bool) (s : Style) (fs : List ReadField) → are_tags_fit (body_model tag (cond b (mark_in derive (read_struct s fs)) (read_struct s fs))) ≡ true
  struct_marked tag derive false s fs = refl
  struct_marked tag derive true Struct fs = refl
  struct_marked tag derive true Tuple fs = refl
  struct_marked tag derive true Newtype fs = refl
  struct_marked tag derive true NoFields fs = refl

  enum_marked : (derive : Derive) (b : Bool) (vs : List ReadVariant) → cond b (mark_in derive (read_enum vs)) (read_enum vs) ≡ read_enum vs
  enum_marked derive true vs = refl
  enum_marked derive false vs = refl

  -- what the checks of tags tell, of all that they tell
  conflict_told : (derive : Derive) (c : ReadContainer) → checks_told derive c ≡ [] → check_internal_tag_field_name_conflict c ≡ []
  conflict_told derive c h =
      let a = nothing_right (check_default_on_tuple c) (flat_map (λ check. check c) (check_remote_generic ∷ check_getter ∷ check_flatten ∷ check_identifier ∷ check_variant_skip_attrs ∷ check_internal_tag_field_name_conflict ∷ check_adjacent_tag_conflict ∷ check_transparent derive ∷ check_from_and_try_from ∷ [])) h in
      let b = nothing_right (check_remote_generic c) (flat_map (λ check. check c) (check_getter ∷ check_flatten ∷ check_identifier ∷ check_variant_skip_attrs ∷ check_internal_tag_field_name_conflict ∷ check_adjacent_tag_conflict ∷ check_transparent derive ∷ check_from_and_try_from ∷ [])) a in
      let d = nothing_right (check_getter c) (flat_map (λ check. check c) (check_flatten ∷ check_identifier ∷ check_variant_skip_attrs ∷ check_internal_tag_field_name_conflict ∷ check_adjacent_tag_conflict ∷ check_transparent derive ∷ check_from_and_try_from ∷ [])) b in
      let e = nothing_right (check_flatten c) (flat_map (λ check. check c) (check_identifier ∷ check_variant_skip_attrs ∷ check_internal_tag_field_name_conflict ∷ check_adjacent_tag_conflict ∷ check_transparent derive ∷ check_from_and_try_from ∷ [])) d in
      let f = nothing_right (check_identifier c) (flat_map (λ check. check c) (check_variant_skip_attrs ∷ check_internal_tag_field_name_conflict ∷ check_adjacent_tag_conflict ∷ check_transparent derive ∷ check_from_and_try_from ∷ [])) e in
      let g = nothing_right (check_variant_skip_attrs c) (flat_map (λ check. check c) (check_internal_tag_field_name_conflict ∷ check_adjacent_tag_conflict ∷ check_transparent derive ∷ check_from_and_try_from ∷ [])) f in
      nothing_left (check_internal_tag_field_name_conflict c) (flat_map (λ check. check c) (check_adjacent_tag_conflict ∷ check_transparent derive ∷ check_from_and_try_from ∷ [])) g

  adjacent_told : (derive : Derive) (c : ReadContainer) → checks_told derive c ≡ [] → check_adjacent_tag_conflict c ≡ []
  adjacent_told derive c h =
      let a = nothing_right (check_default_on_tuple c) (flat_map (λ check. check c) (check_remote_generic ∷ check_getter ∷ check_flatten ∷ check_identifier ∷ check_variant_skip_attrs ∷ check_internal_tag_field_name_conflict ∷ check_adjacent_tag_conflict ∷ check_transparent derive ∷ check_from_and_try_from ∷ [])) h in
      let b = nothing_right (check_remote_generic c) (flat_map (λ check. check c) (check_getter ∷ check_flatten ∷ check_identifier ∷ check_variant_skip_attrs ∷ check_internal_tag_field_name_conflict ∷ check_adjacent_tag_conflict ∷ check_transparent derive ∷ check_from_and_try_from ∷ [])) a in
      let d = nothing_right (check_getter c) (flat_map (λ check. check c) (check_flatten ∷ check_identifier ∷ check_variant_skip_attrs ∷ check_internal_tag_field_name_conflict ∷ check_adjacent_tag_conflict ∷ check_transparent derive ∷ check_from_and_try_from ∷ [])) b in
      let e = nothing_right (check_flatten c) (flat_map (λ check. check c) (check_identifier ∷ check_variant_skip_attrs ∷ check_internal_tag_field_name_conflict ∷ check_adjacent_tag_conflict ∷ check_transparent derive ∷ check_from_and_try_from ∷ [])) d in
      let f = nothing_right (check_identifier c) (flat_map (λ check. check c) (check_variant_skip_attrs ∷ check_internal_tag_field_name_conflict ∷ check_adjacent_tag_conflict ∷ check_transparent derive ∷ check_from_and_try_from ∷ [])) e in
      let g = nothing_right (check_variant_skip_attrs c) (flat_map (λ check. check c) (check_internal_tag_field_name_conflict ∷ check_adjacent_tag_conflict ∷ check_transparent derive ∷ check_from_and_try_from ∷ [])) f in
      let i = nothing_right (check_internal_tag_field_name_conflict c) (flat_map (λ check. check c) (check_adjacent_tag_conflict ∷ check_transparent derive ∷ check_from_and_try_from ∷ [])) g in
      nothing_left (check_adjacent_tag_conflict c) (flat_map (λ check. check c) (check_transparent derive ∷ check_from_and_try_from ∷ [])) i

  container_tags : (derive : Derive) (c : ReadContainer) → Kept (marked derive c) → checks_told derive c ≡ [] → are_tags_fit (body_model c.attrs.tag (marked derive c).body) ≡ true
  container_tags derive c kept told = by c.body refl
    where
      by : (d : ReadData) → c.body ≡ d → are_tags_fit (body_model c.attrs.tag (marked derive c).body) ≡ true
      by (read_struct s fs) e = ap (λ d. are_tags_fit (body_model c.attrs.tag (cond c.attrs.transparent (mark_in derive d) d))) e ∙ struct_marked c.attrs.tag derive c.attrs.transparent s fs
      by (read_enum vs) e = ap (λ d. are_tags_fit (body_model c.attrs.tag d)) q ∙ of_tag c.attrs.tag refl
        where
          q : (marked derive c).body ≡ read_enum vs
          q = ap (λ d. cond c.attrs.transparent (mark_in derive d) d) e ∙ enum_marked derive c.attrs.transparent vs

          of_tag : (tag : TagD) → c.attrs.tag ≡ tag → are_tags_fit (body_model c.attrs.tag (read_enum vs)) ≡ true
          of_tag external t = ap (λ g. are_tags_fit (body_model g (read_enum vs))) t
          of_tag untagged t = ap (λ g. are_tags_fit (body_model g (read_enum vs))) t
          of_tag (adjacent a b) t =
              let told_one : told_if (bytes_eq a b) (same_tags a) (at_item c) ≡ [] = ap (λ g. same_tags_by g (at_item c)) (sym t) ∙ adjacent_told derive c told in
              ap (λ g. are_tags_fit (body_model g (read_enum vs))) t ∙ ap not (none_told (bytes_eq a b) (same_tags a) c told_one)
          of_tag (internal a) t =
              let told_one : told_if (list_any (has_tag_name a) (variants_in (read_enum vs))) (tag_conflict a) (at_item c) ≡ [] =
              (λ i. told_if (list_any (has_tag_name a) (variants_in (sym e i))) (tag_conflict a) (at_item c)) ∙ ap (λ g. tag_conflict_by g c) (sym t) ∙ conflict_told derive c told in
              let skipping = ap (λ d. list_any (λ v. v.attrs.skip_serializing || v.attrs.skip_deserializing) (variants_in d) || list_any (λ f. f.attrs.skip_serializing || f.attrs.skip_deserializing) (all_fields d)) (sym q) ∙ kept.skip in
              let odd = (λ i. forms.struct_is forms.lacks_row (sym q i) || list_any (λ v. not (forms.stands_beside (sym t i) v.style)) (variants_in (sym q i))) ∙ kept.row in
              ap (λ g. are_tags_fit (body_model g (read_enum vs))) t
              ∙ variants_apart a vs odd (ap (λ d. list_any (λ v. v.attrs.untagged) (variants_in d)) (sym q) ∙ kept.untagged)
              (first_false (list_any (λ v. v.attrs.skip_serializing || v.attrs.skip_deserializing) vs) (list_any (λ f. f.attrs.skip_serializing || f.attrs.skip_deserializing) (flat_map (λ v. v.fields) vs)) skipping)
              (then_false (list_any (λ v. v.attrs.skip_serializing || v.attrs.skip_deserializing) vs) (list_any (λ f. f.attrs.skip_serializing || f.attrs.skip_deserializing) (flat_map (λ v. v.fields) vs)) skipping)
              (none_told (list_any (has_tag_name a) vs) (tag_conflict a) c told_one)

-- ---- items

module _ (lexing : Lexing) (v f : Meaning) (private : Name) (derive : Derive) (k : ConversionsD) (items : List (List ℕ)) where
  abbrev IsOne : ContainerModel → Type 0
  IsOne m = ((not m.try_from || is_rule_fit m.body (rule_of m.name k.constraints)) ≡ true) × (are_tags_fit m.body ≡ true)

  abbrev IsFit : Option ReadContainer → Type 0
  IsFit None = Unit {0}
  IsFit (Some c) = IsOne (reader_model c)

  fit_by : (i : ItemD) (o : Option ReadContainer) → leaves_forms items k (option_map (marked derive) o) ≡ false → told_at_last derive i o ≡ [] → IsFit (option_map (marked derive) o)
  fit_by i None h t = tt
  fit_by i (Some c) h t =
      let m = kept items k (marked derive c) h in
      (texts_fit c.attrs.tag (marked derive c).body c.name.text k.constraints (is_some c.attrs.type_try_from) m.texts, container_tags items k derive c m t)

  fit_of : (i : ItemD) → leaves_forms items k (model_of lexing v f private i derive) ≡ false → diagnostics_of lexing v f private i derive ≡ [] → IsFit (model_of lexing v f private i derive)
  fit_of i h t =
      let o = container_of lexing v f private i in
      let a = nothing_right (container_diagnostics lexing i) (members_told lexing i.body ++ told_at_last derive i o) t in
      fit_by i o h (nothing_right (members_told lexing i.body) (told_at_last derive i o) a)

  record AllFit (ms : List ContainerModel) : Type 0 where
    texts : list_all (λ m. not m.try_from || is_rule_fit m.body (rule_of m.name k.constraints)) ms ≡ true
    tags : list_all (λ m. are_tags_fit m.body) ms ≡ true

  add : (o : Option ReadContainer) (ms : List ContainerModel) → IsFit o → AllFit ms → AllFit (cons_option (option_map reader_model o) ms)
  add None ms p q = q
  add (Some c) ms p q = record {
    texts = both_true (not (reader_model c).try_from || is_rule_fit (reader_model c).body (rule_of (reader_model c).name k.constraints)) (list_all (λ m. not m.try_from || is_rule_fit m.body (rule_of m.name k.constraints)) ms) p.0 q.texts;
    tags = both_true (are_tags_fit (reader_model c).body) (list_all (λ m. are_tags_fit m.body) ms) p.1 q.tags;
  }

  one_by : (a b : Bool) → (not a && b) ≡ true → a ≡ false
  one_by true b h = cc
  one_by false b h = refl

  more_by : (a b : Bool) → (not a && b) ≡ true → b ≡ true
  more_by true b h = cc
  more_by false b h = h

  all_fit : (is : List ItemD) → list_all (λ i. not (leaves_forms items k (model_of lexing v f private i derive))) is ≡ true → flat_map (λ i. diagnostics_of lexing v f private i derive) is ≡ []
      → AllFit (filter_map (λ i. option_map reader_model (model_of lexing v f private i derive)) is)
  all_fit [] h t = record { texts = refl; tags = refl }
  all_fit (i ∷ is) h t =
      let others = list_all (λ j. not (leaves_forms items k (model_of lexing v f private j derive))) is in
      let rest = flat_map (λ i. diagnostics_of lexing v f private i derive) is in
      add (model_of lexing v f private i derive) (filter_map (λ j. option_map reader_model (model_of lexing v f private j derive)) is)
      (fit_of i (one_by (leaves_forms items k (model_of lexing v f private i derive)) others h) (nothing_left (diagnostics_of lexing v f private i derive) rest t))
      (all_fit is (more_by (leaves_forms items k (model_of lexing v f private i derive)) others h) (nothing_right (diagnostics_of lexing v f private i derive) rest t))

pub items_fitted : ItemsInsideAreFitted
items_fitted lexing v f private derive k is inside told names =
    let fit = items_fit lexing v f private derive k is inside in
    let more = all_fit lexing v f private derive k (names_of is) is inside told in
    record { fit = fit.fit; rules = fit.rules; texts = more.texts; tags = more.tags; names = names }
