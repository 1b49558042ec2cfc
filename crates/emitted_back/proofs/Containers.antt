-- Emitted containers: within the forms, and their names lead back to what is written under them.
use Rattle.std.proofs.Common.{◌≡◌, ◌≤◌, ◌+◌, ℕ, List, [], ◌∷◌, length, Bool, true, false, ◌&&◌, ◌||◌, not, refl, ap, ◌∙◌, bytes_eq, Some, None, lit≤, arith}
use Rattle.std.specs.List.{list_all, AllByRecursion}
use Rattle.std.proofs.lemmas.List.{length-map}
use Rattle.model_defs.specs.Types.{types_of}
use Rattle.model_defs.specs.Model.{TagModel, external_tag, internal_tag, adjacent_tag, untagged}
use Rattle.model_defs.specs.Layer.{is_unit}
use Rattle.model_defs.proofs.Flat.{and_first, and_second, or_false}
use Rattle.model_defs.proofs.Rising.{bytes_itself}
use Rattle.typed_defs.specs.Fit.{is_field_fit, is_variant_fit, is_body_fit, are_models_fit}
use Rattle.reading_defs.specs.Proper.{is_newtype, are_rules_fit, has_shape, body_has_shape, have_shapes}
use Rattle.writing_laws.specs.Tables.{fields_lead_back, reads_variant_name, variant_names_lead_back, has_one_name, is_beside, tag_leads_back, body_leads_back, container_leads_back}
use Rattle.entry_defs.specs.Entry.{Target, entries_of, Shape, struct_shape, enum_shape, newtype_shape, fields_of, rest_of, VariantEntry, Variants, no_variants, variant_then, variants_of, Contents, unit_contents, newtype_contents, tuple_contents, struct_contents}
use Rattle.entry_defs.specs.Table.{ItemEntry}
use Rattle.entry_defs.specs.Sound.{EachInShape, EachVariant, EachInContents}
use Rattle.emit_defs.specs.Setting.{Setting}
use Rattle.emit_defs.specs.Formed.{ContentsAreFormed, VariantsAreFormed, TagFits, StandBeside, StandsBeside, ShapeIsFormed}
use Rattle.emit_defs.specs.Models.{type_model, type_models, used_type, contents_style, contents_models, after_contents, shape_defaults, variant_model, variant_models, is_transparent, has_rule, model_of_item, models_of_items}
use Rattle.emit_defs.proofs.Places.{models_listed}
use Rattle.emitted_back.specs.Laws.{variants_differ, tagged_differ, variant_names_differ}
use Rattle.emitted_back.proofs.Fields.{both, struct_fit, struct_back, beside, places_fit, places_back}

either : (a b : Bool) → b ≡ true → (a || b) ≡ true
either true b h = refl
either false b h = h

never_both : (a : Bool) → not (a && false) ≡ true
never_both true = refl
never_both false = refl

module _ (P : List ℕ → Shape → Type 0) (Q : Target → Type 0) (s : Setting) (owner : List ℕ) where
  contents_fit : (c : Contents) (n : ℕ) → list_all is_field_fit (contents_models s owner n c) ≡ true
  contents_fit unit_contents n = refl
  contents_fit (newtype_contents e) n = refl
  contents_fit (tuple_contents es) n = places_fit 0 (types_of (type_models s.name (s.is_boxed owner) es))
  contents_fit (struct_contents fs) n = struct_fit s owner fs n

  contents_back : (c : Contents) (n : ℕ) → ContentsAreFormed c → EachInContents P Q c → fields_lead_back (contents_models s owner n c) ≡ true
  contents_back unit_contents n f x = refl
  contents_back (newtype_contents e) n f x = places_back (used_type s owner e ∷ []) (lit≤ tt)
  contents_back (tuple_contents es) n f x =
      let long = ap length (models_listed s.name (s.is_boxed owner) es) ∙ length-map (entries_of es) (type_model s.name (s.is_boxed owner)) in
      let few = f.1 in
      places_back (types_of (type_models s.name (s.is_boxed owner) es)) (omega (arith, long, few))
  contents_back (struct_contents fs) n f x = struct_back s owner fs n x.0

  -- ---- variants

  variants_fit : (ws : List VariantEntry) (n : ℕ) → list_all is_variant_fit (variant_models s owner n ws) ≡ true
  variants_fit [] n = refl
  variants_fit (w ∷ ws) n = both (is_variant_fit (variant_model s owner n w)) _ (contents_fit w.contents n) (variants_fit ws (after_contents w.contents n))

  variants_back : (ws : Variants) (n : ℕ) → VariantsAreFormed ws → EachVariant P Q ws → list_all (λ w. fields_lead_back w.fields) (variant_models s owner n (variants_of ws)) ≡ true
  variants_back no_variants n f x = refl
  variants_back (variant_then i k c ws) n f x = both (fields_lead_back (contents_models s owner n c)) _ (contents_back c n f.0 x.0) (variants_back ws (after_contents c n) f.1 x.1)

  none_read : (w : VariantEntry) (k : ℕ) (us : List VariantEntry) (n : ℕ) → list_all (λ u. not (bytes_eq u.name w.name)) us ≡ true
      → list_all (λ u. not (reads_variant_name (variant_model s owner k w) u.serialize_name)) (variant_models s owner n us) ≡ true
  none_read w k [] n h = refl
  none_read w k (u ∷ us) n h =
      both (not (reads_variant_name (variant_model s owner k w) u.name)) _ (ap not (or_false (bytes_eq u.name w.name)) ∙ and_first _ _ h)
      (none_read w k us (after_contents u.contents n) (and_second (not (bytes_eq u.name w.name)) _ h))

  names_back : (ws : List VariantEntry) (n : ℕ) → variants_differ ws ≡ true → variant_names_lead_back (variant_models s owner n ws) ≡ true
  names_back [] n h = refl
  names_back (w ∷ ws) n h =
      both (reads_variant_name (variant_model s owner n w) w.name && list_all (λ u. not (reads_variant_name (variant_model s owner n w) u.serialize_name)) (variant_models s owner (after_contents w.contents n) ws)) _
      (both (reads_variant_name (variant_model s owner n w) w.name) _ (ap (λ b. b || false) (bytes_itself w.name)) (none_read w n ws (after_contents w.contents n) (and_first _ _ h)))
      (names_back ws (after_contents w.contents n) (and_second (list_all (λ u. not (bytes_eq u.name w.name)) ws) _ h))

  one_name : (ws : List VariantEntry) (n : ℕ) → list_all (λ w. not (is_unit w) || has_one_name w) (variant_models s owner n ws) ≡ true
  one_name [] n = refl
  one_name (w ∷ ws) n =
      both (not (is_unit (variant_model s owner n w)) || has_one_name (variant_model s owner n w)) _
      (either (not (is_unit (variant_model s owner n w))) (has_one_name (variant_model s owner n w)) (ap (λ b. b && true) (bytes_itself w.name))) (one_name ws (after_contents w.contents n))

  stands : (tag : List ℕ) (c : Contents) (i k : List ℕ) (n : ℕ) → StandsBeside tag c → is_beside tag (variant_model s owner n (record { identifier = i; name = k; contents = c })) ≡ true
  stands tag unit_contents i k n h = refl
  stands tag (newtype_contents e) i k n h = absurd h
  stands tag (tuple_contents es) i k n h = absurd h
  stands tag (struct_contents fs) i k n h = beside s owner tag (fields_of fs) (rest_of fs) n h

  stand : (tag : List ℕ) (ws : Variants) (n : ℕ) → StandBeside tag ws → list_all (is_beside tag) (variant_models s owner n (variants_of ws)) ≡ true
  stand tag no_variants n h = refl
  stand tag (variant_then i k c ws) n h =
      both (is_beside tag (variant_model s owner n (record { identifier = i; name = k; contents = c }))) _ (stands tag c i k n h.0) (stand tag ws (after_contents c n) h.1)

  tag_back : (tag : TagModel) (ws : Variants) (n : ℕ) → TagFits tag ws → tagged_differ tag ws ≡ true → tag_leads_back tag (variant_models s owner n (variants_of ws)) ≡ true
  tag_back external_tag ws n f h = both (variant_names_lead_back (variant_models s owner n (variants_of ws))) _ (names_back (variants_of ws) n h) (one_name (variants_of ws) n)
  tag_back (internal_tag tag) ws n f h = both (variant_names_lead_back (variant_models s owner n (variants_of ws))) _ (names_back (variants_of ws) n h) (stand tag ws n f)
  tag_back (adjacent_tag tag content) ws n f h = both (variant_names_lead_back (variant_models s owner n (variants_of ws))) _ (names_back (variants_of ws) n h) (ap not f)
  tag_back untagged ws n f h = refl

-- ---- containers

module _ (P : List ℕ → Shape → Type 0) (Q : Target → Type 0) (s : Setting) where
  shape_fit : (n : ℕ) (name : List ℕ) (h : Shape) → is_body_fit (model_of_item s n (record { name = name; shape = h })).body ≡ true
  shape_fit n name (struct_shape closed fs) = struct_fit s name fs n
  shape_fit n name (enum_shape closed tag ws) = variants_fit P Q s name (variants_of ws) n
  shape_fit n name (newtype_shape e rule) = refl

  shape_back : (n : ℕ) (name : List ℕ) (h : Shape) → ShapeIsFormed h → EachInShape P Q h → variant_names_differ h ≡ true → container_leads_back (model_of_item s n (record { name = name; shape = h })) ≡ true
  shape_back n name (struct_shape closed fs) f x d = both (body_leads_back (model_of_item s n (record { name = name; shape = struct_shape closed fs })).body) _ (struct_back s name fs n x.0) refl
  shape_back n name (enum_shape closed tag ws) f x d =
      both (body_leads_back (model_of_item s n (record { name = name; shape = enum_shape closed tag ws })).body) _
      (both (tag_leads_back tag (variant_models s name n (variants_of ws))) _ (tag_back P Q s name tag ws n f.0 d) (variants_back P Q s name ws n f.1 x)) refl
  shape_back n name (newtype_shape e None) f x d =
      both (body_leads_back (model_of_item s n (record { name = name; shape = newtype_shape e None })).body) _ (places_back (used_type s name e ∷ []) (lit≤ tt)) (never_both (is_transparent s name (newtype_shape e None)))
  shape_back n name (newtype_shape e (Some r)) f x d =
      both (body_leads_back (model_of_item s n (record { name = name; shape = newtype_shape e (Some r) })).body) _ (places_back (used_type s name e ∷ []) (lit≤ tt)) refl

  pub items_fit : (is : List ItemEntry) (n : ℕ) → are_models_fit (models_of_items s n is) ≡ true
  items_fit [] n = refl
  items_fit (i ∷ is) n = both (is_body_fit (model_of_item s n i).body) _ (shape_fit n i.name i.shape) (items_fit is (n + length (shape_defaults i.shape)))

  pub items_back : (is : List ItemEntry) (n : ℕ) → AllByRecursion (λ i. ShapeIsFormed i.shape) is → AllByRecursion (λ i. EachInShape P Q i.shape) is → AllByRecursion (λ i. variant_names_differ i.shape ≡ true) is
      → list_all container_leads_back (models_of_items s n is) ≡ true
  items_back [] n f x d = refl
  items_back (i ∷ is) n f x d = both (container_leads_back (model_of_item s n i)) _ (shape_back n i.name i.shape f.0 x.0 d.0) (items_back is (n + length (shape_defaults i.shape)) f.1 x.1 d.1)

-- ---- shapes and rules

module _ (s : Setting) where
  contents_shaped : (owner : List ℕ) (n : ℕ) (c : Contents) → has_shape (contents_style s owner c) (contents_models s owner n c) ≡ true
  contents_shaped owner n unit_contents = refl
  contents_shaped owner n (newtype_contents e) = refl
  contents_shaped owner n (tuple_contents es) = refl
  contents_shaped owner n (struct_contents fs) = refl

  variants_shaped : (owner : List ℕ) (ws : List VariantEntry) (n : ℕ) → list_all (λ w. has_shape w.style w.fields) (variant_models s owner n ws) ≡ true
  variants_shaped owner [] n = refl
  variants_shaped owner (w ∷ ws) n = both (has_shape (variant_model s owner n w).style (variant_model s owner n w).fields) _ (contents_shaped owner n w.contents) (variants_shaped owner ws (after_contents w.contents n))

  shape_shaped : (n : ℕ) (name : List ℕ) (h : Shape) → body_has_shape (model_of_item s n (record { name = name; shape = h })).body ≡ true
  shape_shaped n name (struct_shape closed fs) = refl
  shape_shaped n name (enum_shape closed tag ws) = variants_shaped name (variants_of ws) n
  shape_shaped n name (newtype_shape e rule) = refl

  shape_ruled : (n : ℕ) (name : List ℕ) (h : Shape) → (not (has_rule h) || is_newtype (model_of_item s n (record { name = name; shape = h })).body) ≡ true
  shape_ruled n name (struct_shape closed fs) = refl
  shape_ruled n name (enum_shape closed tag ws) = refl
  shape_ruled n name (newtype_shape e None) = refl
  shape_ruled n name (newtype_shape e (Some r)) = refl

  pub items_shaped : (is : List ItemEntry) (n : ℕ) → have_shapes (models_of_items s n is) ≡ true
  items_shaped [] n = refl
  items_shaped (i ∷ is) n = both (body_has_shape (model_of_item s n i).body) _ (shape_shaped n i.name i.shape) (items_shaped is (n + length (shape_defaults i.shape)))

  pub items_ruled : (is : List ItemEntry) (n : ℕ) → are_rules_fit (models_of_items s n is) ≡ true
  items_ruled [] n = refl
  items_ruled (i ∷ is) n = both (not (has_rule i.shape) || is_newtype (model_of_item s n i).body) _ (shape_ruled n i.name i.shape) (items_ruled is (n + length (shape_defaults i.shape)))
