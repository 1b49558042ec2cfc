-- What a row asks at one value is asked by its parts, or by the reference of the schema.
use Rattle.std.proofs.Common.{ℕ, ◌≡◌, List, [], ◌∷◌, Bool, true, false, ◌&&◌, Some, inl, inr, sym, subst}
use Rattle.std.specs.Prelude.{if◌then◌else◌}
use Rattle.schema_defs.specs.Schema.{Schema, boolean, object}
use Rattle.schema_defs.proofs.Spare.{Refs, Given}
use Rattle.model_defs.specs.Model.{TagModel, external_tag, internal_tag, adjacent_tag, untagged}
use Rattle.entry_defs.specs.Entry.{Target, Entry, boolean_entry, integer_entry, text_entry, native_entry, any_entry, unit_entry, option_entry, vec_entry, set_entry, map_entry, tuple_entry, array_entry, reference, item, struct_shape, enum_shape, newtype_shape, rest_of, newtype_contents, tuple_contents, struct_contents}
use Rattle.entry_defs.specs.Ends.{Asked, AskedByShape, AskedByVariants, AskedByContents}
use Rattle.convert_defs.specs.Row.{Part, VariantBody, unit_body, part_body, fields_body, body_parts, VariantRow, variants_parts, Closing, Row, leaf_row, as_it_is_row, option_row, ruled_row, vec_row, set_row, array_row, tuple_row, map_row, pattern_map_row, struct_row, enum_row, merged_row, refused_row, row_parts}
use Rattle.convert_defs.specs.Table.{target_of}
use Rattle.convert_defs.specs.Convert.{same_flag, is_without_rest, has_two_places, content_of, labeled, row_variants, body_content, is_closed, entry_of}
use Rattle.convert_defs.proofs.Views.{schema_of, AllParts}
use Rattle.convert_defs.proofs.Rows.{parts-left, parts-right}
use Rattle.convert_defs.proofs.Weaker.{asked-weaker}
use Rattle.convert_defs.proofs.Fine.{own, BodyFine, BodiesFine, LeafFine, Fine}

-- ---- contents of variants, and labels

module _ (Q : Target → Type 0) where
  content-asked : (closed : Bool) (e : Entry) → Asked Q e → AskedByContents Q (content_of untagged closed e)
  content-asked closed (tuple_entry us) x = by (has_two_places us)
    where
      by : (b : Bool) → AskedByContents Q (if b then tuple_contents us else newtype_contents (tuple_entry us))
      by true = tt
      by false = tt
  content-asked closed unit_entry x = tt
  content-asked closed (item l (struct_shape c fs)) x = by (same_flag c closed && is_without_rest (rest_of fs))
    where
      by : (b : Bool) → AskedByContents Q (if b then struct_contents fs else newtype_contents (item l (struct_shape c fs)))
      by true = tt
      by false = tt
  content-asked closed (item l (enum_shape c t ws)) x = x
  content-asked closed (item l (newtype_shape e u)) x = x
  content-asked closed boolean_entry x = tt
  content-asked closed (integer_entry g) x = tt
  content-asked closed text_entry x = tt
  content-asked closed (native_entry f) x = tt
  content-asked closed any_entry x = tt
  content-asked closed (option_entry e) x = x
  content-asked closed (vec_entry e) x = tt
  content-asked closed (set_entry e) x = tt
  content-asked closed (map_entry k e) x = tt
  content-asked closed (array_entry e n) x = tt
  content-asked closed (reference t) x = x

module _ (Q : Target → Type 0) where
  labeled-asked : (n : List ℕ) (e : Entry) → Asked Q e → Asked Q (labeled n e)
  labeled-asked n (item l h) x = x
  labeled-asked n (option_entry e) x = labeled-asked n e x
  labeled-asked n boolean_entry x = tt
  labeled-asked n (integer_entry g) x = tt
  labeled-asked n text_entry x = tt
  labeled-asked n (native_entry f) x = tt
  labeled-asked n any_entry x = tt
  labeled-asked n unit_entry x = tt
  labeled-asked n (vec_entry e) x = tt
  labeled-asked n (set_entry e) x = tt
  labeled-asked n (map_entry k e) x = tt
  labeled-asked n (tuple_entry us) x = tt
  labeled-asked n (array_entry e m) x = tt
  labeled-asked n (reference t) x = x

-- ---- one row

module _ (P : List ℕ → Type 0) (Q : Target → Type 0) (refs : (q : List ℕ) (t : Target) → P q → target_of q ≡ Some t → Q t) (conv : Part → Entry) where
  abbrev pub PartAsks : Part → Type 0
  PartAsks p = Refs P (schema_of p) → Asked Q (conv p)

  nothing : (x : Target) → ⊥ → Q x
  nothing x b = absurd b

  own-refs : (s : Schema) → Refs P s → Given P (own s)
  own-refs (boolean b) g = tt
  own-refs (object p ss ls ns) g = g.0

  leaf-asks : (s : Schema) (e : Entry) → LeafFine P s e → Refs P s → Asked Q e
  leaf-asks s e (inl x) g = asked-weaker (λ q. ⊥) Q nothing e x.1
  leaf-asks s e (inr (t, q, h, f, k)) g = subst (Asked Q) (sym h) (refs q t (subst (Given P) k (own-refs s g)) f)

  body-asks : (s : Schema) (closed : Bool) (b : VariantBody) → BodyFine P s untagged b → AllParts PartAsks (body_parts b) → Refs P s → AskedByContents Q (body_content conv untagged closed b)
  body-asks s closed unit_body x h g = tt
  body-asks s closed (part_body p) x h g = content-asked Q closed (conv p) (h.0 (x g))
  body-asks s closed (fields_body fs) x h g = tt

  variants-ask : (s : Schema) (closed : Bool) (ws : List VariantRow) → BodiesFine P s untagged ws → AllParts PartAsks (variants_parts ws) → Refs P s → AskedByVariants Q (row_variants conv untagged closed ws)
  variants-ask s closed [] x h g = tt
  variants-ask s closed (w ∷ ws) x h g = (body-asks s closed w.body x.0 (parts-left PartAsks (body_parts w.body) (variants_parts ws) h) g, variants-ask s closed ws x.1 (parts-right PartAsks (body_parts w.body) (variants_parts ws) h) g)

  enum-asks : (s : Schema) (tag : TagModel) (c : Closing) (ws : List VariantRow) → BodiesFine P s tag ws → AllParts PartAsks (variants_parts ws) → Refs P s → (closed : Bool) → AskedByShape Q (enum_shape closed tag (row_variants conv tag closed ws))
  enum-asks s external_tag c ws x h g closed = tt
  enum-asks s (internal_tag t) c ws x h g closed = tt
  enum-asks s (adjacent_tag t k) c ws x h g closed = tt
  enum-asks s untagged c ws x h g closed = variants-ask s closed ws x h g

  pub row-asks : (s : Schema) (name : List ℕ) (w : Row) → Fine P s w → AllParts PartAsks (row_parts w) → Refs P s → Asked Q (entry_of conv name w)
  row-asks s name (leaf_row e) x h g = labeled-asked Q name e (leaf-asks s e x g)
  row-asks s name (as_it_is_row p) x h g = h.0 (x g)
  row-asks s name (option_row p) x h g = h.0 (x g)
  row-asks s name (ruled_row p u) x h g = h.0 (x g)
  row-asks s name (vec_row p) x h g = tt
  row-asks s name (set_row p) x h g = tt
  row-asks s name (array_row p n) x h g = tt
  row-asks s name (tuple_row ps n p) x h g = tt
  row-asks s name (map_row k p) x h g = tt
  row-asks s name (pattern_map_row qs p) x h g = tt
  row-asks s name (struct_row c fs o) x h g = tt
  row-asks s name (enum_row tag c ws) x h g = enum-asks s tag c ws x h g (is_closed conv c ws)
  row-asks s name (merged_row ps) x h g = tt
  row-asks s name (refused_row c) x h g = tt
