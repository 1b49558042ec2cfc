-- Each row makes an entry whose items are so, of parts that are converted to such.
use Rattle.std.proofs.Common.{◌≡◌, ℕ, zero, suc, List, [], ◌∷◌, map, Bool, true, false, ◌&&◌, not, Option, Some, None, refl, ap, bytes_eq}
use Rattle.std.specs.Prelude.{if◌then◌else◌}
use Rattle.std.specs.List.{list_all}
use Rattle.model_defs.specs.Model.{TagModel, external_tag, internal_tag, adjacent_tag, untagged}
use Rattle.writing_laws.specs.Tables.{lists_scalars}
use Rattle.entry_defs.specs.Entry.{Entry, boolean_entry, integer_entry, text_entry, native_entry, any_entry, unit_entry, option_entry, vec_entry, set_entry, map_entry, tuple_entry, array_entry, reference, item, Entries, struct_shape, enum_shape, newtype_shape, rest_of, Fields, no_fields, variants_of, tuple_contents, newtype_contents, struct_contents}
use Rattle.entry_defs.specs.Table.{items_in, items_in_entries, items_in_fields, items_in_variants, items_in_contents}
use Rattle.convert_defs.specs.Row.{Part, FieldRow, field_parts, OutsideRow, outside_parts, further_parts, VariantBody, unit_body, part_body, fields_body, body_parts, VariantRow, variants_parts, Row, leaf_row, as_it_is_row, option_row, ruled_row, vec_row, set_row, array_row, tuple_row, map_row, pattern_map_row, struct_row, enum_row, merged_row, refused_row, row_parts}
use Rattle.convert_defs.specs.Apart.{differ}
use Rattle.convert_defs.specs.Convert.{same_flag, is_without_rest, unit_in, has_two_places, content_of, labeled, nullable_entry, alike_fields, alike_entries, row_fields, row_entries, outside_fields, is_closed, body_content, row_variants, entry_of}
use Rattle.convert_defs.proofs.Bare.{and_left, and_right}
use Rattle.convert_defs.proofs.Views.{AllParts}
use Rattle.convert_defs.proofs.Rows.{parts-left, parts-right}
use Rattle.emitted_back.specs.Laws.{variants_differ, tagged_differ}
use Rattle.emitted_back.proofs.Fields.{both, differ_back, not_true}
use Rattle.apart_laws.proofs.Items.{AllApart, Within, joined}

-- ---- what a row is to say

abbrev pub names : List VariantRow → List (List ℕ)
names ws = map (λ w. w.name) ws

abbrev pub TagApart : TagModel → List VariantRow → Type 0
TagApart external_tag ws = differ (names ws) ≡ true
TagApart (internal_tag t) ws = differ (names ws) ≡ true
TagApart (adjacent_tag t c) ws = differ (names ws) ≡ true
TagApart untagged ws = Unit {0}

abbrev pub RowIsApart : Row → Type 0
RowIsApart (leaf_row e) = Within e
RowIsApart (ruled_row p u) = lists_scalars u ≡ true
RowIsApart (enum_row tag c ws) = TagApart tag ws
RowIsApart _ = Unit {0}

-- ---- pieces

unit_within : (tag : TagModel) → AllApart (items_in_contents (unit_in tag))
unit_within external_tag = tt
unit_within (internal_tag t) = tt
unit_within (adjacent_tag t c) = tt
unit_within untagged = tt

content_within : (tag : TagModel) (closed : Bool) (e : Entry) → Within e → AllApart (items_in_contents (content_of tag closed e))
content_within tag closed (tuple_entry us) x = by (has_two_places us)
  where
    by : (b : Bool) → AllApart (items_in_contents (if b then tuple_contents us else newtype_contents (tuple_entry us)))
    by true = x
    by false = x
content_within tag closed unit_entry x = unit_within tag
content_within tag closed (item l (struct_shape c fs)) x = by (same_flag c closed && is_without_rest (rest_of fs))
  where
    by : (b : Bool) → AllApart (items_in_contents (if b then struct_contents fs else newtype_contents (item l (struct_shape c fs))))
    by true = x.1
    by false = x
content_within tag closed (item l (enum_shape c t ws)) x = x
content_within tag closed (item l (newtype_shape e u)) x = x
content_within tag closed boolean_entry x = tt
content_within tag closed (integer_entry g) x = tt
content_within tag closed text_entry x = tt
content_within tag closed (native_entry f) x = tt
content_within tag closed any_entry x = tt
content_within tag closed (option_entry e) x = x
content_within tag closed (vec_entry e) x = x
content_within tag closed (set_entry e) x = x
content_within tag closed (map_entry k e) x = x
content_within tag closed (array_entry e n) x = x
content_within tag closed (reference t) x = tt

labeled_within : (n : List ℕ) (e : Entry) → Within e → Within (labeled n e)
labeled_within n (item l h) x = x
labeled_within n (option_entry e) x = labeled_within n e x
labeled_within n boolean_entry x = tt
labeled_within n (integer_entry g) x = tt
labeled_within n text_entry x = tt
labeled_within n (native_entry f) x = tt
labeled_within n any_entry x = tt
labeled_within n unit_entry x = tt
labeled_within n (vec_entry e) x = x
labeled_within n (set_entry e) x = x
labeled_within n (map_entry k e) x = x
labeled_within n (tuple_entry us) x = x
labeled_within n (array_entry e m) x = x
labeled_within n (reference t) x = tt

nullable_within : (b : Bool) (e : Entry) → Within e → Within (nullable_entry b e)
nullable_within false e x = x
nullable_within true (option_entry e) x = x
nullable_within true (item l h) x = x
nullable_within true boolean_entry x = tt
nullable_within true (integer_entry g) x = tt
nullable_within true text_entry x = tt
nullable_within true (native_entry f) x = tt
nullable_within true any_entry x = tt
nullable_within true unit_entry x = tt
nullable_within true (vec_entry e) x = x
nullable_within true (set_entry e) x = x
nullable_within true (map_entry k e) x = x
nullable_within true (tuple_entry us) x = x
nullable_within true (array_entry e m) x = x
nullable_within true (reference t) x = tt

alike_within : (ns : List (List ℕ)) (b : Bool) (e : Entry) → Within e → AllApart (items_in_fields (alike_fields ns b e))
alike_within [] true e h = h
alike_within [] false e h = tt
alike_within (n ∷ []) true e h = h
alike_within (n ∷ []) false e h = joined (items_in e) [] h tt
alike_within (n ∷ m ∷ ns) b e h = alike_within (m ∷ ns) b e h

-- ---- names of variants

module _ (conv : Part → Entry) where
  none_named : (n : List ℕ) (tag : TagModel) (closed : Bool) (ws : List VariantRow) → list_all (λ m. not (bytes_eq n m)) (names ws) ≡ true
      → list_all (λ u. not (bytes_eq u.name n)) (variants_of (row_variants conv tag closed ws)) ≡ true
  none_named n tag closed [] h = refl
  none_named n tag closed (w ∷ ws) h =
      both (not (bytes_eq w.name n)) _ (ap not (differ_back n w.name (not_true (bytes_eq n w.name) (and_left _ _ h)))) (none_named n tag closed ws (and_right (not (bytes_eq n w.name)) _ h))

  named_apart : (tag : TagModel) (closed : Bool) (ws : List VariantRow) → differ (names ws) ≡ true → variants_differ (variants_of (row_variants conv tag closed ws)) ≡ true
  named_apart tag closed [] h = refl
  named_apart tag closed (w ∷ ws) h =
      both (list_all (λ u. not (bytes_eq u.name w.name)) (variants_of (row_variants conv tag closed ws))) _ (none_named w.name tag closed ws (and_left _ _ h))
      (named_apart tag closed ws (and_right (list_all (λ m. not (bytes_eq w.name m)) (names ws)) _ h))

  tag_apart : (tag : TagModel) (closed : Bool) (ws : List VariantRow) → TagApart tag ws → tagged_differ tag (row_variants conv tag closed ws) ≡ true
  tag_apart external_tag closed ws x = named_apart external_tag closed ws x
  tag_apart (internal_tag t) closed ws x = named_apart (internal_tag t) closed ws x
  tag_apart (adjacent_tag t c) closed ws x = named_apart (adjacent_tag t c) closed ws x
  tag_apart untagged closed ws x = refl

  -- ---- rows

  abbrev pub AllWithin : List Part → Type 0
  AllWithin ps = AllParts (λ p. Within (conv p)) ps

  fields_within : (fs : List FieldRow) (more : Fields) → AllWithin (field_parts fs) → AllApart (items_in_fields more) → AllApart (items_in_fields (row_fields conv fs more))
  fields_within [] more h g = g
  fields_within (f ∷ fs) more h g =
      joined (items_in (nullable_entry f.nullable (conv f.part))) (items_in_fields (row_fields conv fs more)) (nullable_within f.nullable (conv f.part) h.0) (fields_within fs more h.1 g)

  entries_within : (ps : List Part) (more : Entries) → AllWithin ps → AllApart (items_in_entries more) → AllApart (items_in_entries (row_entries conv ps more))
  entries_within [] more h g = g
  entries_within (p ∷ ps) more h g = joined (items_in (conv p)) (items_in_entries (row_entries conv ps more)) h.0 (entries_within ps more h.1 g)

  further_within : (n : ℕ) (p : Part) → AllWithin (further_parts n p) → AllApart (items_in_entries (alike_entries n (conv p)))
  further_within zero p h = tt
  further_within (suc zero) p h = joined (items_in (conv p)) [] h.0 tt
  further_within (suc (suc n)) p h = further_within (suc n) p h

  outside_within : (o : Option OutsideRow) → AllWithin (outside_parts o) → AllApart (items_in_fields (outside_fields conv o))
  outside_within None h = tt
  outside_within (Some o) h = alike_within o.names o.keeps_rest (conv o.part) h.0

  body_within : (tag : TagModel) (closed : Bool) (b : VariantBody) → AllWithin (body_parts b) → AllApart (items_in_contents (body_content conv tag closed b))
  body_within tag closed unit_body h = tt
  body_within tag closed (part_body p) h = content_within tag closed (conv p) h.0
  body_within tag closed (fields_body fs) h = fields_within fs no_fields h tt

  variants_within : (tag : TagModel) (closed : Bool) (ws : List VariantRow) → AllWithin (variants_parts ws) → AllApart (items_in_variants (row_variants conv tag closed ws))
  variants_within tag closed [] h = tt
  variants_within tag closed (w ∷ ws) h =
      joined (items_in_contents (body_content conv tag closed w.body)) (items_in_variants (row_variants conv tag closed ws))
      (body_within tag closed w.body (parts-left (λ p. Within (conv p)) (body_parts w.body) (variants_parts ws) h)) (variants_within tag closed ws (parts-right (λ p. Within (conv p)) (body_parts w.body) (variants_parts ws) h))

  pub row_within : (name : List ℕ) (w : Row) → RowIsApart w → AllWithin (row_parts w) → Within (entry_of conv name w)
  row_within name (leaf_row e) x h = labeled_within name e x
  row_within name (as_it_is_row p) x h = h.0
  row_within name (option_row p) x h = h.0
  row_within name (ruled_row p u) x h = (record { variants = refl; rules = both (lists_scalars u) true x refl }, h.0)
  row_within name (vec_row p) x h = h.0
  row_within name (set_row p) x h = h.0
  row_within name (array_row p n) x h = h.0
  row_within name (tuple_row ps n p) x h =
      entries_within ps (alike_entries n (conv p)) (parts-left (λ p. Within (conv p)) ps (further_parts n p) h) (further_within n p (parts-right (λ p. Within (conv p)) ps (further_parts n p) h))
  row_within name (map_row k p) x h = joined (items_in (conv k)) (items_in (conv p)) h.0 h.1.0
  row_within name (pattern_map_row qs p) x h = (record { variants = refl; rules = refl }, h.0)
  row_within name (struct_row c fs o) x h = (
    record { variants = refl; rules = refl },
    fields_within fs (outside_fields conv o) (parts-left (λ p. Within (conv p)) (field_parts fs) (outside_parts o) h) (outside_within o (parts-right (λ p. Within (conv p)) (field_parts fs) (outside_parts o) h)),
  )
  row_within name (enum_row tag c ws) x h = (record { variants = tag_apart tag (is_closed conv c ws) ws x; rules = refl }, variants_within tag (is_closed conv c ws) ws h)
  row_within name (merged_row ps) x h = tt
  row_within name (refused_row c) x h = tt
