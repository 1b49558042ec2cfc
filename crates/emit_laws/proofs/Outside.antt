-- No cause puts an emitted item outside the forms that the reader of values reads.
use Rattle.std.proofs.Common.{◌≡◌, ◌≤◌, ◌+◌, ◌&&◌, ◌||◌, ℕ, List, [], ◌∷◌, length, Bool, true, false, not, refl, ap, ◌∙◌, Some, None, bytes_eq}
use Rattle.std.specs.Prelude.{is_some, filter}
use Rattle.std.specs.Fmt.{decimal}
use Rattle.std.specs.List.{list_any}
use Rattle.syntax_trees.specs.Syntax.{TyD}
use Rattle.attr_parts.specs.declared.derive.Derive.{Derive}
use Rattle.container_defs.specs.Checks.{is_one, marked, counts}
use Rattle.container_defs.specs.Container.{ReadField, ReadVariant, ReadContainer}
use Rattle.container_defs.specs.Forms as forms
use Rattle.container_defs.specs.Forms.{is_known, is_text, is_text_map, fails, is_known_reader, is_known_condition, has_odd_emptiness, has_extras, has_odd_some, has_odd_whole, is_odd_rest, repeats_name, is_unread, has_unread, field_type, is_stated_elsewhere, is_text_rule, same_type, is_outside}
use Rattle.container_defs.specs.Reader.{has_name}
use Rattle.type_spellings.specs.Types.{type_of}
use Rattle.model_defs.specs.Model as model
use Rattle.model_defs.specs.Model.{text_rule, allow_rule, deny_rule, ConstraintD, ConversionsD, external_tag, internal_tag, adjacent_tag}
use Rattle.entry_defs.specs.Entry.{Entry, text_entry, rest, Shape, struct_shape, enum_shape, newtype_shape, FieldEntry, VariantEntry, fields_of, rest_of, variants_of}
use Rattle.entry_defs.specs.Table.{Table, items_of}
use Rattle.entry_defs.specs.Sound.{EachInShape}
use Rattle.emit_defs.specs.Formed.{ShapeIsFormed}
use Rattle.emit_defs.specs.Setting.{Setting, setting_of, ends_in_phantom}
use Rattle.emit_defs.specs.Models.{unboxed, used_type, field_manner, shape_defaults, item_constraints, conversions_of_items}
use Rattle.emit_defs.specs.Trees.{used_tree}
use Rattle.emit_laws.proofs.Alone.{of_name}
use Rattle.emit_laws.proofs.Bodies.{made_place, made_field, made_rest, made_struct, made_variant}
use Rattle.emit_laws.proofs.Containers.{made_container}
use Rattle.emit_laws.proofs.Checks.{no_getter, in_body, in_fields}
use Rattle.emit_laws.proofs.Read.{P, Q, named_items, spelled, type_read, rest_type, entry_known, marked_by}
use Rattle.emit_laws.proofs.Inside.{known_reader, known_condition, some_fits, whole_fits, emptiness_fits, known_by, and_false, body_passes, body_variants, no_variant}
use Rattle.emit_laws.proofs.Forms.{same_known, unread_none, fields_once, variants_once, rest_of_shape, itself_read, variants_unread, rests_left, variants_flat, rests_by, rest_stands, stated_fits, beside}

module _ (t : Table) (n : List ℕ) (u : TyD) (m : ℕ) where
  abbrev s : Setting
  s = setting_of t

  abbrev cs : ConversionsD
  cs = conversions_of_items (items_of t)

  abbrev C : Shape → ReadContainer
  C h = made_container s n u m h

  -- the type of `try_from` means the field's
  abbrev pub TypeMeans : Shape → Type 0
  TypeMeans (newtype_shape e (Some r)) = type_of u ≡ type_of (used_tree s n e)
  TypeMeans (newtype_shape e None) = Unit {0}
  TypeMeans (struct_shape closed fs) = Unit {0}
  TypeMeans (enum_shape closed tag ws) = Unit {0}

  -- what is known of the item in its table
  pub record InTable (h : Shape) : Type 0 where
    pub formed : ShapeIsFormed h
    pub each : EachInShape (P t) (Q t) h
    pub within : m + length (shape_defaults h) ≤ length cs.defaults
    pub alone : is_one (filter (bytes_eq n) (named_items t)) ≡ true
    pub ruled : of_name n cs.constraints ≡ item_constraints (record { name = n; shape = h })
    pub means : TypeMeans h

  module _ (h : Shape) (k : InTable h) where
    no_field : (test : ReadField → Bool) → ((l : ℕ) (f : FieldEntry) → test (made_field s n l f) ≡ false) → ((i : List ℕ) (e : Entry) → list_any test (made_rest s n (rest i e)) ≡ false)
        → ((i : ℕ) (ty : TyD) → test (made_place i ty) ≡ false) → forms.any_field test (C h) ≡ false
    no_field test a b c = in_body s n test a b c u h m

    no_variant_of : (test : ReadVariant → Bool) → ((l : ℕ) (w : VariantEntry) → test (made_variant s n l w) ≡ false) → forms.any_variant test (C h) ≡ false
    no_variant_of test a = body_variants t n test a u h m

    getters : forms.has_a_getter (C h) ≡ false
    getters = no_getter s n u h m

    bounds : forms.has_bound (C h) ≡ false
    bounds =
        let vs = no_variant_of (λ v. is_some v.attrs.ser_bound || is_some v.attrs.de_bound) (λ l w. refl) in
        let fs = no_field (λ f. is_some f.attrs.ser_bound || is_some f.attrs.de_bound) (λ l f. refl) (λ i e. refl) (λ i ty. refl) in
        λ i. ((false || false) || vs i) || fs i

    others : forms.has_other (C h) ≡ false
    others = no_variant_of (λ v. v.attrs.other) (λ l w. refl)

    untagged : forms.has_untagged_variant (C h) ≡ false
    untagged = no_variant_of (λ v. v.attrs.untagged) (λ l w. refl)

    skips : forms.has_skip (C h) ≡ false
    skips =
        let vs = no_variant_of (λ v. v.attrs.skip_serializing || v.attrs.skip_deserializing) (λ l w. refl) in
        let fs = no_field (λ f. f.attrs.skip_serializing || f.attrs.skip_deserializing) (λ l f. refl) (λ i e. refl) (λ i ty. refl) in
        λ i. vs i || fs i

    writers : forms.has_serialize_with (C h) ≡ false
    writers =
        let vs = no_variant_of (λ v. is_some v.attrs.serialize_with) (λ l w. refl) in
        let fs = no_field (λ f. is_some f.attrs.serialize_with) (λ l f. refl) (λ i e. refl) (λ i ty. refl) in
        λ i. vs i || fs i

    readers : forms.has_other_deserialize_with (C h) ≡ false
    readers =
        let vs = no_variant_of (λ v. is_some v.attrs.deserialize_with) (λ l w. refl) in
        let fs = no_field (λ f. fails is_known_reader f.attrs.deserialize_with) (λ l f. known_reader (field_manner s n f)) (λ i e. refl) (λ i ty. refl) in
        λ i. vs i || fs i

    conditions : forms.has_other_condition (C h) ≡ false
    conditions = no_field (λ f. fails is_known_condition f.attrs.skip_serializing_if) (λ l f. known_condition (field_manner s n f)) (λ i e. refl) (λ i ty. refl)

    defaults : forms.has_unknown_default (named_items t) cs (C h) ≡ false
    defaults =
        body_passes t n (length cs.defaults) (λ f. is_stated_elsewhere (named_items t) cs f.attrs.default)
        (λ l f x r. stated_fits t n (s.leads f.entry) f.state f.entry l (length cs.defaults) r (named_items t) cs refl) (λ i e x. refl) (λ i ty x. refl) u h m k.formed k.each k.within

    odd_rests : forms.has_odd_rest (C h) ≡ false
    odd_rests =
        body_passes t n (length cs.defaults) is_odd_rest (λ l f x r. refl) (λ i e x. ap (λ z. (true && (false || not (is_text_map z))) || false) (rest_type t n e x.0 x.1)) (λ i ty x. refl) u h m k.formed k.each k.within

    nameless : forms.has_nameless_extras (C h) ≡ false
    nameless = no_field (λ f. not (has_name f.member) && has_extras f) (λ l f. refl) (λ i e. refl) (λ i ty. refl)

    unknown : forms.has_unknown_type (named_items t) cs (C h) ≡ false
    unknown =
        body_passes t n (length cs.defaults) (λ f. not (is_known (named_items t) (field_type f)))
        (λ l f x r. known_by (named_items t) (field_manner s n f) _ (used_type s n f.entry) (type_read t n l f x) (entry_known t (s.is_boxed n) f.entry x.1))
        (λ i e x. ap (λ z. not (is_known (named_items t) z) || false) (rest_type t n e x.0 x.1) ∙ ap (λ b. not b || false) (entry_known t unboxed e x.1))
        (λ i ty x. ap not x) u h m k.formed k.each k.within

    elsewhere : forms.has_some_elsewhere (C h) ≡ false
    elsewhere =
        body_passes t n (length cs.defaults) has_odd_some
        (λ l f x r. some_fits (field_manner s n f) _ (used_type s n f.entry) (type_read t n l f x)) (λ i e x. refl) (λ i ty x. refl) u h m k.formed k.each k.within

    wholes : forms.has_whole_with_default (C h) ≡ false
    wholes = no_field has_odd_whole (λ l f. whole_fits (field_manner s n f) l) (λ i e. refl) (λ i ty. refl)

    halves : forms.has_half_emptiness (C h) ≡ false
    halves =
        body_passes t n (length cs.defaults) has_odd_emptiness
        (λ l f x r. emptiness_fits s (s.is_boxed n) (s.leads f.entry) f.state f.entry l _ (type_read t n l f x)) (λ i e x. refl) (λ i ty x. refl) u h m k.formed k.each k.within

    twice : forms.is_named_twice (named_items t) cs (C h) ≡ false
    twice = ap not k.alone

  -- ---- by shapes

  tagged_struct : (h : Shape) → forms.is_tagged_struct (C h) ≡ false
  tagged_struct (struct_shape closed fs) = refl
  tagged_struct (enum_shape closed tag ws) = refl
  tagged_struct (newtype_shape e rule) = refl

  flattened : (h : Shape) → InTable h → forms.has_odd_flatten (C h) ≡ false
  flattened (struct_shape closed fs) k = ap (rests_by t n closed) (rests_left t n (fields_of fs) (rest_of fs) m) ∙ rest_stands t n closed fs (rest_of fs) k.formed.0
  flattened (newtype_shape e rule) k = refl
  flattened (enum_shape closed tag ws) k = variants_flat t n ws m k.formed.1

  transparent : (h : Shape) → forms.is_transparent_with_names (C h) ≡ false
  transparent (struct_shape closed fs) = refl
  transparent (enum_shape closed tag ws) = refl
  transparent (newtype_shape e (Some rule)) = refl
  transparent (newtype_shape e None) = and_false (not (ends_in_phantom s.name s.is_boxed n e))

  one_rule : (k : ConstraintD) → is_one (k ∷ []) ≡ true
  one_rule k = refl

  converted : (h : Shape) → InTable h → forms.has_odd_try_from (named_items t) cs (C h) ≡ false
  converted (struct_shape closed fs) k = refl
  converted (enum_shape closed tag ws) k = refl
  converted (newtype_shape e None) k = refl
  converted (newtype_shape e (Some rule)) k =
      let ty = type_of (used_tree s n e) in
      let known : is_known (named_items t) ty ≡ true = ap (is_known (named_items t)) (spelled t n e k.formed.1 k.each) ∙ entry_known t (s.is_boxed n) e k.each in
      let same : same_type ty (type_of u) ≡ true = ap (same_type ty) k.means ∙ same_known (named_items t) ty known in
      let one : is_one (of_name n cs.constraints) ≡ true = ap is_one k.ruled in
      λ i. not (same i && one i)

  texts : (h : Shape) → InTable h → forms.has_text_rule_elsewhere (named_items t) cs (C h) ≡ false
  texts (struct_shape closed fs) k = refl
  texts (enum_shape closed tag ws) k = refl
  texts (newtype_shape e None) k = refl
  texts (newtype_shape e (Some (allow_rule vs))) k = ap (λ rs. (true && list_any (λ r. is_text_rule r.rule) rs) && not (is_text (type_of (used_tree s n e)))) k.ruled
  texts (newtype_shape e (Some (deny_rule vs))) k = ap (λ rs. (true && list_any (λ r. is_text_rule r.rule) rs) && not (is_text (type_of (used_tree s n e)))) k.ruled
  texts (newtype_shape text_entry (Some (text_rule x))) k =
      ap (λ z. (true && list_any (λ r. is_text_rule r.rule) (of_name n cs.constraints)) && not (is_text z)) (spelled t n text_entry tt tt) ∙ and_false (true && list_any (λ r. is_text_rule r.rule) (of_name n cs.constraints))
  texts (newtype_shape _ (Some (text_rule x))) k = absurd k.formed.0

  repeated : (h : Shape) → InTable h → forms.has_repeated_name (C h) ≡ false
  repeated (struct_shape closed fs) k = ap (λ b. b || false) (fields_once t n (fields_of fs) (rest_of fs) m k.each.0 (rest_of_shape t n closed fs (rest_of fs) k.formed.0))
  repeated (newtype_shape e rule) k = refl
  repeated (enum_shape closed tag ws) k = variants_once t n ws m k.formed.1 k.each

  unread : (h : Shape) → forms.has_unread_beside_rest (C h) ≡ false
  unread (struct_shape closed fs) =
      ap (λ b. b || false) (unread_none (not (forms.is_empty (forms.rests (made_struct s n m fs)))) (list_any is_unread (made_struct s n m fs))
      (in_fields s n is_unread (λ l f. itself_read t n f.name) (λ i e. refl) (λ i ty. itself_read t n (decimal i)) (fields_of fs) (rest_of fs) m))
  unread (newtype_shape e rule) = refl
  unread (enum_shape closed tag ws) = variants_unread t n (variants_of ws) m

  rowless : (h : Shape) → InTable h → forms.has_no_row (C h) ≡ false
  rowless (struct_shape closed fs) k = refl
  rowless (newtype_shape e rule) k = refl
  rowless (enum_shape closed (internal_tag tag) ws) k = beside t n tag ws m k.formed.0
  rowless (enum_shape closed external_tag ws) k = no_variant t n (λ v. false) (λ l w. refl) (variants_of ws) m
  rowless (enum_shape closed (adjacent_tag tag content) ws) k = no_variant t n (λ v. false) (λ l w. refl) (variants_of ws) m
  rowless (enum_shape closed model.untagged ws) k = no_variant t n (λ v. false) (λ l w. refl) (variants_of ws) m

  inside : (h : Shape) → InTable h → is_outside (named_items t) cs (C h) ≡ false
  inside h k =
      let a5 = getters h k in
      let a6 = bounds h k in
      let a8 = tagged_struct h in
      let a10 = others h k in
      let a11 = untagged h k in
      let a12 = skips h k in
      let a13 = writers h k in
      let a14 = readers h k in
      let a15 = conditions h k in
      let a16 = defaults h k in
      let a17 = flattened h k in
      let a18 = odd_rests h k in
      let a19 = transparent h in
      let a20 = converted h k in
      let a21 = nameless h k in
      let a22 = unknown h k in
      let a23 = twice h k in
      let a24 = elsewhere h k in
      let a25 = wholes h k in
      let a26 = texts h k in
      let a27 = repeated h k in
      let a28 = unread h in
      let a29 = halves h k in
      let a30 = rowless h k in
      λ i. false || (false || (false || (false || (a5 i || (a6 i || (false || (a8 i || (false || (a10 i || (a11 i || (a12 i || (a13 i || (a14 i || (a15 i || (a16 i || (a17 i || (a18 i || (a19 i || (a20 i
      || (a21 i || (a22 i || (a23 i || (a24 i || (a25 i || (a26 i || (a27 i || (a28 i || (a29 i || (a30 i || false)))))))))))))))))))))))))))))

  -- marks change nothing
  abbrev by_marks : Shape → TyD → Bool → Bool → Bool
  by_marks h ty b c = is_outside (named_items t) cs (record (C h) { body = marked_by t n u m ty b c })

  no_marks : (e : Entry) (b c : Bool) → by_marks (newtype_shape e None) (used_tree s n e) b c ≡ is_outside (named_items t) cs (C (newtype_shape e None))
  no_marks e true true = refl
  no_marks e true false = refl
  no_marks e false c = refl

  marks_outside : (h : Shape) (derive : Derive) → is_outside (named_items t) cs (marked derive (C h)) ≡ is_outside (named_items t) cs (C h)
  marks_outside (struct_shape closed fs) derive = refl
  marks_outside (enum_shape closed tag ws) derive = refl
  marks_outside (newtype_shape e (Some rule)) derive = refl
  marks_outside (newtype_shape e None) derive = no_marks e (not (ends_in_phantom s.name s.is_boxed n e)) (counts derive (made_place 0 (used_tree s n e)))

  pub never_outside : (h : Shape) (derive : Derive) → InTable h → is_outside (named_items t) cs (marked derive (C h)) ≡ false
  never_outside h derive k = marks_outside h derive ∙ inside h k
