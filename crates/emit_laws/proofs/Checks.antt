-- The ten checks tell nothing of an emitted item.
use Rattle.std.proofs.Common.{◌≡◌, ◌&&◌, ◌||◌, ℕ, suc, List, [], ◌∷◌, ◌++◌, Bool, true, false, not, cond, refl, sym, ap, ◌∙◌, true≢false, Some, None, bytes_eq}
use Rattle.std.specs.Prelude.{is_some}
use Rattle.std.specs.List.{list_any, list_all, flat_map}
use Rattle.token_trees.specs.declared.token.Span.{Span}
use Rattle.syntax_trees.specs.Syntax.{TyD, Tys, end_tys, more_tys}
use Rattle.attr_parts.specs.declared.derive.Derive.{Derive}
use Rattle.attr_parts.specs.declared.derive.Derive.TheVariants.{Serialize, Deserialize}
use Rattle.attr_parts.specs.declared.values.Identifier.TheVariants.{No}
use Rattle.attr_parts.specs.Diagnostics.{DiagnosticD, getter_remote, getter_enum, tag_conflict, same_tags}
use Rattle.attr_defs.specs.Container.{ContainerAttrs}
use Rattle.container_defs.specs.declared.style.Style.TheVariants.{Struct, Tuple}
use Rattle.container_defs.specs.Checks.{told_if, told_maybe, at_item, at_variant, check_default_on_tuple, check_getter, flatten_told, check_flatten, identifier_case, case_told, identifier_told, check_identifier, variant_skips_told, check_variant_skip_attrs, is_written_as, is_read_as, has_tag_name, check_internal_tag_field_name_conflict, check_adjacent_tag_conflict, counting_told, check_transparent, is_phantom, checks_told}
use Rattle.container_defs.specs.Container.{ReadField, ReadVariant, all_fields, has_getter}
use Rattle.schema_defs.specs.declared.Format.{Format}
use Rattle.schema_defs.specs.declared.Format.TheVariants.{Uuid, Date, DateTime, Ip, Ipv4, Ipv6}
use Rattle.model_defs.specs.Model as model
use Rattle.model_defs.specs.Model.{TagModel, external_tag, internal_tag, adjacent_tag}
use Rattle.model_defs.proofs.Flat.{and_first, and_second, and_true, not_true}
use Rattle.entry_defs.specs.Entry.{IntegerName, i8, u8, i16, u16, i32, u32, i64, u64, nonzero_u8, nonzero_u16, nonzero_u32, nonzero_u64, Entry, integer_entry, native_entry, reference, item, Rest, no_rest, rest, Shape, struct_shape, enum_shape, newtype_shape, Contents, unit_contents, newtype_contents, tuple_contents, struct_contents, Variants, no_variants, variant_then, FieldEntry, VariantEntry, fields_of, rest_of, variants_of}
use Rattle.emit_defs.specs.Formed.{StandBeside, VariantsAreFormed, ShapeIsFormed}
use Rattle.emit_defs.specs.Setting as setting
use Rattle.emit_defs.specs.Setting.{Setting, ends_in_phantom}
use Rattle.emit_defs.specs.Models.{after_state, after_contents}
use Rattle.emit_defs.specs.Trees.{lone, boxed_ty, integer_ty, native_ty, used_ty, entry_tys, used_tree}
use Rattle.emit_laws.proofs.Bodies.{read_style, made_place, made_places, made_field, made_fields, made_rest, made_struct, made_contents, made_variant, made_variants}
use Rattle.emit_laws.proofs.Containers.{made_attrs, made_body, made_container}

first_false : (a b : Bool) → (a || b) ≡ false → a ≡ false
first_false true b h = absurd (true≢false h)
first_false false b h = refl

second_false : (a b : Bool) → (a || b) ≡ false → b ≡ false
second_false true b h = absurd (true≢false h)
second_false false b h = h

and_false : (b : Bool) → (b && false) ≡ false
and_false true = refl
and_false false = refl

pub or_false : (a b : Bool) → a ≡ false → b ≡ false → (a || b) ≡ false
or_false a b e f = λ i. e i || f i

pub none_joined : (test : ReadField → Bool) (xs ys : List ReadField) → list_any test xs ≡ false → list_any test ys ≡ false → list_any test (xs ++ ys) ≡ false
none_joined test [] ys h k = k
none_joined test (x ∷ xs) ys h k = or_false (test x) _ (first_false (test x) _ h) (none_joined test xs ys (second_false (test x) _ h) k)

none_named : (a : ContainerAttrs) → a.identifier ≡ No → (is_last : Bool) (v : ReadVariant) → v.attrs.other ≡ false → case_told a is_last v ≡ []
none_named a e is_last v o = λ i. told_maybe (identifier_case (e i) a.tag is_last (o i) v.style v.name.text) (at_variant v)

module _ (s : Setting) (n : List ℕ) where
  -- ---- what holds of each field that is made holds of none, where the test is false

  module _ (test : ReadField → Bool) (at_field_false : (k : ℕ) (f : FieldEntry) → test (made_field s n k f) ≡ false)
      (at_rest_false : (i : List ℕ) (e : Entry) → list_any test (made_rest s n (rest i e)) ≡ false) (at_place_false : (i : ℕ) (t : TyD) → test (made_place i t) ≡ false) where
    pub in_fields : (fs : List FieldEntry) (o : Rest) (k : ℕ) → list_any test (made_fields s n k fs ++ made_rest s n o) ≡ false
    in_fields [] no_rest k = refl
    in_fields [] (rest i e) k = at_rest_false i e
    in_fields (f ∷ fs) o k = or_false (test (made_field s n k f)) _ (at_field_false k f) (in_fields fs o (after_state f.state k))

    in_places : (ts : Tys) (i : ℕ) → list_any test (made_places i ts) ≡ false
    in_places end_tys i = refl
    in_places (more_tys t ts) i = or_false (test (made_place i t)) _ (at_place_false i t) (in_places ts (suc i))

    pub in_contents : (c : Contents) (k : ℕ) → list_any test (made_contents s n k c) ≡ false
    in_contents unit_contents k = refl
    in_contents (newtype_contents e) k = or_false (test (made_place 0 (used_tree s n e))) false (at_place_false 0 (used_tree s n e)) refl
    in_contents (tuple_contents es) k = in_places (entry_tys s.name (s.is_boxed n) es) 0
    in_contents (struct_contents fs) k = in_fields (fields_of fs) (rest_of fs) k

    -- in the fields of each variant
    in_variants : (ws : List VariantEntry) (k : ℕ) → list_any test (flat_map (λ v. v.fields) (made_variants s n k ws)) ≡ false
    in_variants [] k = refl
    in_variants (w ∷ ws) k = none_joined test (made_contents s n k w.contents) _ (in_contents w.contents k) (in_variants ws (after_contents w.contents k))

    pub in_body : (u : TyD) (h : Shape) (k : ℕ) → list_any test (all_fields (made_body s n u k h)) ≡ false
    in_body u (struct_shape closed fs) k = in_fields (fields_of fs) (rest_of fs) k
    in_body u (enum_shape closed tag ws) k = in_variants (variants_of ws) k
    in_body u (newtype_shape e rule) k = or_false (test (made_place 0 (used_tree s n e))) false (at_place_false 0 (used_tree s n e)) refl

  -- ---- getters

  pub no_getter : (u : TyD) (h : Shape) (k : ℕ) → has_getter (made_body s n u k h) ≡ false
  no_getter u h k = in_body (λ f. is_some f.attrs.getter) (λ m f. refl) (λ i e. refl) (λ i t. refl) u h k

  getters_untold : (u : TyD) (h : Shape) (k : ℕ) → check_getter (made_container s n u k h) ≡ []
  getters_untold u (struct_shape closed fs) k = ap (λ b. told_if (b && true) getter_remote (at_item (made_container s n u k (struct_shape closed fs)))) (no_getter u (struct_shape closed fs) k)
  getters_untold u (newtype_shape e rule) k = ap (λ b. told_if (b && true) getter_remote (at_item (made_container s n u k (newtype_shape e rule)))) (no_getter u (newtype_shape e rule) k)
  getters_untold u (enum_shape closed tag ws) k = ap (λ b. told_if b getter_enum (at_item (made_container s n u k (enum_shape closed tag ws)))) (no_getter u (enum_shape closed tag ws) k)

  -- ---- flattened fields have names

  of_struct : (fs : List ReadField) → flatten_told Struct fs ≡ []
  of_struct [] = refl
  of_struct (f ∷ fs) = of_struct fs

  of_places : (ts : Tys) (i : ℕ) → flatten_told Tuple (made_places i ts) ≡ []
  of_places end_tys i = refl
  of_places (more_tys t ts) i = of_places ts (suc i)

  of_contents : (c : Contents) (k : ℕ) → flatten_told (read_style c) (made_contents s n k c) ≡ []
  of_contents unit_contents k = refl
  of_contents (newtype_contents e) k = refl
  of_contents (tuple_contents es) k = of_places (entry_tys s.name (s.is_boxed n) es) 0
  of_contents (struct_contents fs) k = of_struct (made_struct s n k fs)

  of_variants : (ws : List VariantEntry) (k : ℕ) → flat_map (λ v. flatten_told v.style v.fields) (made_variants s n k ws) ≡ []
  of_variants [] k = refl
  of_variants (w ∷ ws) k =
      let one = of_contents w.contents k in
      let rec = of_variants ws (after_contents w.contents k) in
      λ i. one i ++ rec i

  flattened_untold : (u : TyD) (h : Shape) (k : ℕ) → check_flatten (made_container s n u k h) ≡ []
  flattened_untold u (struct_shape closed fs) k = of_struct (made_struct s n k fs)
  flattened_untold u (newtype_shape e rule) k = refl
  flattened_untold u (enum_shape closed tag ws) k = of_variants (variants_of ws) k

  -- ---- variants are no identifiers, and skip nothing

  names_untold : (a : ContainerAttrs) → a.identifier ≡ No → (ws : List VariantEntry) (k : ℕ) → identifier_told a (made_variants s n k ws) ≡ []
  names_untold a e [] k = refl
  names_untold a e (w ∷ []) k = none_named a e true (made_variant s n k w) refl
  names_untold a e (w ∷ x ∷ ws) k =
      let one = none_named a e false (made_variant s n k w) refl in
      let rec = names_untold a e (x ∷ ws) (after_contents w.contents k) in
      λ i. one i ++ rec i

  identifiers_untold : (u : TyD) (h : Shape) (k : ℕ) → check_identifier (made_container s n u k h) ≡ []
  identifiers_untold u (struct_shape closed fs) k = refl
  identifiers_untold u (newtype_shape e rule) k = refl
  identifiers_untold u (enum_shape closed tag ws) k = names_untold (made_attrs s n u (enum_shape closed tag ws)) refl (variants_of ws) k

  skips_none : (ws : List VariantEntry) (k : ℕ) → flat_map variant_skips_told (made_variants s n k ws) ≡ []
  skips_none [] k = refl
  skips_none (w ∷ ws) k = skips_none ws (after_contents w.contents k)

  skips_untold : (u : TyD) (h : Shape) (k : ℕ) → check_variant_skip_attrs (made_container s n u k h) ≡ []
  skips_untold u (struct_shape closed fs) k = refl
  skips_untold u (newtype_shape e rule) k = refl
  skips_untold u (enum_shape closed tag ws) k = skips_none (variants_of ws) k

  -- ---- beside an internal tag no field has its name

  lacks_field : (t : List ℕ) (v : ReadVariant) → v.attrs.skip_serializing ≡ false → v.attrs.skip_deserializing ≡ false → (fs : List FieldEntry) (o : Rest) → o ≡ no_rest → (k : ℕ)
      → list_all (λ f. not (bytes_eq f.name t)) fs ≡ true → list_any (λ f. is_written_as t v f || is_read_as t v f) (made_fields s n k fs ++ made_rest s n o) ≡ false
  lacks_field t v p q [] o e k h = ap (λ z. list_any (λ f. is_written_as t v f || is_read_as t v f) (made_rest s n z)) e
  lacks_field t v p q (f ∷ fs) o e k h =
      let name : bytes_eq f.name t ≡ false = not_true _ (and_first _ _ h) in
      let one : (is_written_as t v (made_field s n k f) || is_read_as t v (made_field s n k f)) ≡ false = λ i. (not (p i) && name i) || (not (q i) && (name i || false)) in
      or_false _ _ one (lacks_field t v p q fs o e (after_state f.state k) (and_second _ _ h))

  lacks_tag : (t : List ℕ) (ws : Variants) (k : ℕ) → StandBeside t ws → VariantsAreFormed ws → list_any (has_tag_name t) (made_variants s n k (variants_of ws)) ≡ false
  lacks_tag t no_variants k h g = refl
  lacks_tag t (variant_then i x unit_contents ws) k h g = lacks_tag t ws (after_contents unit_contents k) h.1 g.1
  lacks_tag t (variant_then i x (newtype_contents e) ws) k h g = absurd h.0
  lacks_tag t (variant_then i x (tuple_contents es) ws) k h g = absurd h.0
  lacks_tag t (variant_then i x (struct_contents fs) ws) k h g =
      let v = made_variant s n k (record { identifier = i; name = x; contents = struct_contents fs }) in
      or_false _ _ (lacks_field t v refl refl (fields_of fs) (rest_of fs) g.0.0 k h.0) (lacks_tag t ws (after_contents (struct_contents fs) k) h.1 g.1)

  tags_untold : (u : TyD) (h : Shape) (k : ℕ) → ShapeIsFormed h → check_internal_tag_field_name_conflict (made_container s n u k h) ≡ []
  tags_untold u (struct_shape closed fs) k g = refl
  tags_untold u (newtype_shape e rule) k g = refl
  tags_untold u (enum_shape closed external_tag ws) k g = refl
  tags_untold u (enum_shape closed (adjacent_tag t c) ws) k g = refl
  tags_untold u (enum_shape closed model.untagged ws) k g = refl
  tags_untold u (enum_shape closed (internal_tag t) ws) k g =
      ap (λ b. told_if b (tag_conflict t) (at_item (made_container s n u k (enum_shape closed (internal_tag t) ws)))) (lacks_tag t ws k g.0 g.1)

  adjacent_untold : (u : TyD) (h : Shape) (k : ℕ) → ShapeIsFormed h → check_adjacent_tag_conflict (made_container s n u k h) ≡ []
  adjacent_untold u (struct_shape closed fs) k g = refl
  adjacent_untold u (newtype_shape e rule) k g = refl
  adjacent_untold u (enum_shape closed external_tag ws) k g = refl
  adjacent_untold u (enum_shape closed (internal_tag t) ws) k g = refl
  adjacent_untold u (enum_shape closed model.untagged ws) k g = refl
  adjacent_untold u (enum_shape closed (adjacent_tag t c) ws) k g =
      ap (λ b. told_if b (same_tags t) (at_item (made_container s n u k (enum_shape closed (adjacent_tag t c) ws)))) g.0

  -- ---- a transparent newtype's field counts

  integer_phantom : (i : IntegerName) → is_phantom (integer_ty i) ≡ false
  integer_phantom i8 = refl
  integer_phantom u8 = refl
  integer_phantom i16 = refl
  integer_phantom u16 = refl
  integer_phantom i32 = refl
  integer_phantom u32 = refl
  integer_phantom i64 = refl
  integer_phantom u64 = refl
  integer_phantom nonzero_u8 = refl
  integer_phantom nonzero_u16 = refl
  integer_phantom nonzero_u32 = refl
  integer_phantom nonzero_u64 = refl

  native_phantom : (f : Format) → is_phantom (native_ty f) ≡ false
  native_phantom Uuid = refl
  native_phantom Date = refl
  native_phantom DateTime = refl
  native_phantom Ip = refl
  native_phantom Ipv4 = refl
  native_phantom Ipv6 = refl

  used_phantom : (l : List ℕ) → is_phantom (used_ty (s.is_boxed n) l) ≡ (setting.is_phantom l && not (s.is_boxed n l))
  used_phantom l = elim (s.is_boxed n l) as (λ b. is_phantom (cond b (boxed_ty (lone l)) (lone l)) ≡ (setting.is_phantom l && not b)) [
    | true ↦ sym (and_false (setting.is_phantom l))
    | false ↦ sym (and_true (setting.is_phantom l))
  ]

  phantom_told : (e : Entry) → is_phantom (used_tree s n e) ≡ ends_in_phantom s.name s.is_boxed n e
  phantom_told (integer_entry i) = integer_phantom i
  phantom_told (native_entry f) = native_phantom f
  phantom_told (reference q) = used_phantom (s.name q)
  phantom_told (item l h) = used_phantom l
  phantom_told _ = refl

  -- a field that isn't skipped and has no default takes part
  abbrev transparent_by : Derive → TyD → Span → Bool → Bool → List DiagnosticD
  transparent_by derive t at b p = cond b (counting_told derive (cond (not p && true) (made_place 0 t ∷ []) []) at) []

  one_counts : (derive : Derive) (t : TyD) (at : Span) (p : Bool) → transparent_by derive t at (not p) p ≡ []
  one_counts derive t at true = refl
  one_counts derive t at false = refl

  newtype_untold : (u : TyD) (e : Entry) (k : ℕ) (derive : Derive) → check_transparent derive (made_container s n u k (newtype_shape e None)) ≡ []
  newtype_untold u e k Serialize =
      let at = at_item (made_container s n u k (newtype_shape e None)) in
      ap (transparent_by Serialize (used_tree s n e) at (not (ends_in_phantom s.name s.is_boxed n e))) (phantom_told e) ∙ one_counts Serialize (used_tree s n e) at (ends_in_phantom s.name s.is_boxed n e)
  newtype_untold u e k Deserialize =
      let at = at_item (made_container s n u k (newtype_shape e None)) in
      ap (transparent_by Deserialize (used_tree s n e) at (not (ends_in_phantom s.name s.is_boxed n e))) (phantom_told e) ∙ one_counts Deserialize (used_tree s n e) at (ends_in_phantom s.name s.is_boxed n e)

  transparent_untold : (u : TyD) (h : Shape) (k : ℕ) (derive : Derive) → check_transparent derive (made_container s n u k h) ≡ []
  transparent_untold u (struct_shape closed fs) k derive = refl
  transparent_untold u (enum_shape closed tag ws) k derive = refl
  transparent_untold u (newtype_shape e (Some rule)) k derive = refl
  transparent_untold u (newtype_shape e None) k derive = newtype_untold u e k derive

  defaults_untold : (u : TyD) (h : Shape) (k : ℕ) → check_default_on_tuple (made_container s n u k h) ≡ []
  defaults_untold u (struct_shape closed fs) k = refl
  defaults_untold u (enum_shape closed tag ws) k = refl
  defaults_untold u (newtype_shape e rule) k = refl

  pub checks_untold : (u : TyD) (h : Shape) (k : ℕ) (derive : Derive) → ShapeIsFormed h → checks_told derive (made_container s n u k h) ≡ []
  checks_untold u h k derive g =
      let a = defaults_untold u h k in
      let b = getters_untold u h k in
      let c = flattened_untold u h k in
      let d = identifiers_untold u h k in
      let e = skips_untold u h k in
      let f = tags_untold u h k g in
      let l = adjacent_untold u h k g in
      let m = transparent_untold u h k derive in
      λ i. a i ++ (b i ++ (c i ++ (d i ++ (e i ++ (f i ++ (l i ++ (m i ++ [])))))))
