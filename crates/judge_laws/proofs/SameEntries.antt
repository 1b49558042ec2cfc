-- The entry of a row is that of its parts alone. (conversion_laws has this lemma for itself.)
use Rattle.std.proofs.Common.{◌≡◌, ℕ, zero, suc, List, [], ◌∷◌, Bool, ◌||◌, Option, Some, None, refl, ap}
use Rattle.entry_defs.specs.Entry.{Entry, Entries, Fields, option_entry, vec_entry, set_entry, map_entry, tuple_entry, array_entry, item, struct_shape, enum_shape, newtype_shape, entry_then, field_then, variant_then, struct_contents}
use Rattle.model_defs.specs.Model.{TagModel}
use Rattle.convert_defs.specs.Row.{Part, FieldRow, field_parts, OutsideRow, outside_parts, further_parts, VariantBody, unit_body, part_body, fields_body, body_parts, VariantRow, variants_parts, Closing, by_shape, by_contents, Row, leaf_row, as_it_is_row, option_row, ruled_row, vec_row, set_row, array_row, tuple_row, map_row, pattern_map_row, struct_row, enum_row, merged_row, refused_row, row_parts}
use Rattle.convert_defs.specs.Convert.{pattern_key, nullable_entry, alike_fields, alike_entries, row_fields, row_entries, outside_fields, is_closed_struct, is_closed_body, is_closed, content_of, body_content, row_variants, entry_of}
use Rattle.convert_defs.proofs.Rows.{parts-left, parts-right}
use Rattle.convert_defs.proofs.Views.{AllParts}

module _ (f g : Part → Entry) where
  abbrev Alike : Part → Type 0
  Alike p = f p ≡ g p

  fields-same : (fs : List FieldRow) (x y : Fields) → AllParts Alike (field_parts fs) → x ≡ y → row_fields f fs x ≡ row_fields g fs y
  fields-same [] x y h e = e
  fields-same (k ∷ fs) x y h e = λ i. field_then k.name k.name (nullable_entry k.nullable (h.0 i)) k.state (fields-same fs x y h.1 e i)

  entries-same : (ps : List Part) (x y : Entries) → AllParts Alike ps → x ≡ y → row_entries f ps x ≡ row_entries g ps y
  entries-same [] x y h e = e
  entries-same (p ∷ ps) x y h e = λ i. entry_then (h.0 i) (entries-same ps x y h.1 e i)

  further-same : (n : ℕ) (p : Part) → AllParts Alike (further_parts n p) → alike_entries n (f p) ≡ alike_entries n (g p)
  further-same zero p h = refl
  further-same (suc n) p h = ap (alike_entries (suc n)) h.0

  outside-same : (o : Option OutsideRow) → AllParts Alike (outside_parts o) → outside_fields f o ≡ outside_fields g o
  outside-same None h = refl
  outside-same (Some o) h = ap (alike_fields o.names o.keeps_rest) h.0

  body-closed : (b : VariantBody) → AllParts Alike (body_parts b) → is_closed_body f b ≡ is_closed_body g b
  body-closed unit_body h = refl
  body-closed (part_body p) h = ap is_closed_struct h.0
  body-closed (fields_body fs) h = refl

  closed-same : (c : Closing) (ws : List VariantRow) → AllParts Alike (variants_parts ws) → is_closed f c ws ≡ is_closed g c ws
  closed-same (by_shape c) ws h = refl
  closed-same by_contents [] h = refl
  closed-same by_contents (w ∷ ws) h = λ i. body-closed w.body (parts-left Alike (body_parts w.body) (variants_parts ws) h) i || closed-same by_contents ws (parts-right Alike (body_parts w.body) (variants_parts ws) h) i

  body-same : (tag : TagModel) (c e : Bool) → c ≡ e → (b : VariantBody) → AllParts Alike (body_parts b) → body_content f tag c b ≡ body_content g tag e b
  body-same tag c e z unit_body h = refl
  body-same tag c e z (part_body p) h = λ i. content_of tag (z i) (h.0 i)
  body-same tag c e z (fields_body fs) h = ap struct_contents (fields-same fs _ _ h refl)

  variants-same : (tag : TagModel) (c e : Bool) → c ≡ e → (ws : List VariantRow) → AllParts Alike (variants_parts ws) → row_variants f tag c ws ≡ row_variants g tag e ws
  variants-same tag c e z [] h = refl
  variants-same tag c e z (w ∷ ws) h =
      λ i. variant_then w.name w.name (body-same tag c e z w.body (parts-left Alike (body_parts w.body) (variants_parts ws) h) i) (variants-same tag c e z ws (parts-right Alike (body_parts w.body) (variants_parts ws) h) i)

  pub same-entry : (name : List ℕ) (w : Row) → AllParts Alike (row_parts w) → entry_of f name w ≡ entry_of g name w
  same-entry name (leaf_row e) h = refl
  same-entry name (as_it_is_row p) h = h.0
  same-entry name (option_row p) h = ap option_entry h.0
  same-entry name (ruled_row p rule) h = ap (λ e. item name (newtype_shape e (Some rule))) h.0
  same-entry name (vec_row p) h = ap vec_entry h.0
  same-entry name (set_row p) h = ap set_entry h.0
  same-entry name (array_row p n) h = ap (λ e. array_entry e n) h.0
  same-entry name (tuple_row ps n p) h = ap tuple_entry (entries-same ps _ _ (parts-left Alike ps (further_parts n p) h) (further-same n p (parts-right Alike ps (further_parts n p) h)))
  same-entry name (map_row k p) h = λ i. map_entry (h.0 i) (h.1.0 i)
  same-entry name (pattern_map_row qs p) h = ap (map_entry (pattern_key qs)) h.0
  same-entry name (struct_row c fs o) h =
      ap (λ x. item name (struct_shape c x)) (fields-same fs _ _ (parts-left Alike (field_parts fs) (outside_parts o) h) (outside-same o (parts-right Alike (field_parts fs) (outside_parts o) h)))
  same-entry name (enum_row tag c ws) h =
      λ i. item name (enum_shape (closed-same c ws h i) tag (variants-same tag (is_closed f c ws) (is_closed g c ws) (closed-same c ws h) ws h i))
  same-entry name (merged_row ps) h = refl
  same-entry name (refused_row c) h = refl
