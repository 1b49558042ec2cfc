-- A row whose parts make formed entries makes a formed entry, and so is the item of one.
use Rattle.std.proofs.Common.{◌≡◌, ℕ, zero, suc, List, [], ◌∷◌, Bool, true, false, ◌&&◌, Option, Some, None, refl}
use Rattle.std.specs.Prelude.{if◌then◌else◌}
use Rattle.model_defs.specs.Model.{TagModel, external_tag, internal_tag, adjacent_tag, untagged}
use Rattle.entry_defs.specs.Entry.{Entry, boolean_entry, integer_entry, text_entry, native_entry, any_entry, unit_entry, option_entry, vec_entry, set_entry, map_entry, tuple_entry, array_entry, reference, item, Entries, struct_shape, enum_shape, newtype_shape, Fields, no_fields, rest_of, Contents, newtype_contents, tuple_contents, struct_contents}
use Rattle.convert_defs.specs.Row.{Part, FieldRow, OutsideRow, VariantBody, unit_body, part_body, fields_body, VariantRow, Row, leaf_row, as_it_is_row, option_row, ruled_row, vec_row, set_row, array_row, tuple_row, map_row, pattern_map_row, struct_row, enum_row, merged_row, refused_row}
use Rattle.convert_defs.specs.Convert.{same_flag, unit_in, has_two_places, is_without_rest, content_of, labeled, nullable_entry, alike_fields, alike_entries, row_fields, row_entries, outside_fields, is_closed, body_content, row_variants, entry_of, as_item}
use Rattle.entry_space.proofs.Keys.{second-true, both-true}
use Rattle.space_trees.specs.Formed.{has_place, has_field, rest_is_wanted, has_no_rest, is_formed_by, are_formed_by, is_formed_shape_by, are_formed_fields_by, are_formed_variants_by, is_formed_contents_by}
use Rattle.merged_documents.proofs.Leaves.{HasLeaf}
use Rattle.formed_plans.proofs.LeafForm.{leaf-formed}

abbrev pub Fine : Entry → Type 0
Fine e = is_formed_by rest_is_wanted e ≡ true

abbrev FineContents : Contents → Type 0
FineContents c = is_formed_contents_by rest_is_wanted c ≡ true

labeled-fine : (n : List ℕ) (e : Entry) → Fine e → Fine (labeled n e)
labeled-fine n (item l h) x = x
labeled-fine n (option_entry e) x = labeled-fine n e x
labeled-fine n boolean_entry x = x
labeled-fine n (integer_entry g) x = x
labeled-fine n text_entry x = x
labeled-fine n (native_entry f) x = x
labeled-fine n any_entry x = x
labeled-fine n unit_entry x = x
labeled-fine n (vec_entry e) x = x
labeled-fine n (set_entry e) x = x
labeled-fine n (map_entry k e) x = x
labeled-fine n (tuple_entry us) x = x
labeled-fine n (array_entry e m) x = x
labeled-fine n (reference t) x = x

nullable-fine : (b : Bool) (e : Entry) → Fine e → Fine (nullable_entry b e)
nullable-fine false e x = x
nullable-fine true (option_entry e) x = x
nullable-fine true (item l h) x = x
nullable-fine true boolean_entry x = x
nullable-fine true (integer_entry g) x = x
nullable-fine true text_entry x = x
nullable-fine true (native_entry f) x = x
nullable-fine true any_entry x = x
nullable-fine true unit_entry x = x
nullable-fine true (vec_entry e) x = x
nullable-fine true (set_entry e) x = x
nullable-fine true (map_entry k e) x = x
nullable-fine true (tuple_entry us) x = x
nullable-fine true (array_entry e m) x = x
nullable-fine true (reference t) x = x

-- ---- contents of variants

unit-fine : (tag : TagModel) → FineContents (unit_in tag)
unit-fine external_tag = refl
unit-fine (internal_tag t) = refl
unit-fine (adjacent_tag t c) = refl
unit-fine untagged = refl

content-fine : (tag : TagModel) (closed : Bool) (e : Entry) → Fine e → FineContents (content_of tag closed e)
content-fine tag closed (tuple_entry us) x = by (has_two_places us)
  where
    by : (b : Bool) → FineContents (if b then tuple_contents us else newtype_contents (tuple_entry us))
    by true = x
    by false = x
content-fine tag closed unit_entry x = unit-fine tag
content-fine tag closed (item l (struct_shape c fs)) x = by (same_flag c closed && is_without_rest (rest_of fs)) refl
  where
    by : (b : Bool) → (same_flag c closed && is_without_rest (rest_of fs)) ≡ b → FineContents (if b then struct_contents fs else newtype_contents (item l (struct_shape c fs)))
    by true q = both-true _ _ (second-true (same_flag c closed) (is_without_rest (rest_of fs)) q) (second-true (rest_is_wanted fs) (are_formed_fields_by rest_is_wanted fs) x)
    by false q = x
content-fine tag closed (item l (enum_shape c t ws)) x = x
content-fine tag closed (item l (newtype_shape e u)) x = x
content-fine tag closed boolean_entry x = x
content-fine tag closed (integer_entry g) x = x
content-fine tag closed text_entry x = x
content-fine tag closed (native_entry f) x = x
content-fine tag closed any_entry x = x
content-fine tag closed (option_entry e) x = x
content-fine tag closed (vec_entry e) x = x
content-fine tag closed (set_entry e) x = x
content-fine tag closed (map_entry k e) x = x
content-fine tag closed (array_entry e n) x = x
content-fine tag closed (reference t) x = x

-- ---- parts that are alike

alike-has : (ns : List (List ℕ)) (n : List ℕ) (b : Bool) (e : Entry) → has_field (alike_fields (n ∷ ns) b e) ≡ true
alike-has [] n true e = refl
alike-has [] n false e = refl
alike-has (m ∷ ns) n b e = refl

alike-fine : (ns : List (List ℕ)) (b : Bool) (e : Entry) → Fine e → are_formed_fields_by rest_is_wanted (alike_fields ns b e) ≡ true
alike-fine [] true e x = x
alike-fine [] false e x = refl
alike-fine (n ∷ []) false e x = both-true _ _ x refl
alike-fine (n ∷ []) true e x = x
alike-fine (n ∷ m ∷ ns) b e x = both-true _ _ (alike-has ns m b e) (alike-fine (m ∷ ns) b e x)

alike-wanted : (ns : List (List ℕ)) (b : Bool) (e : Entry) → rest_is_wanted (alike_fields ns b e) ≡ true
alike-wanted [] true e = refl
alike-wanted [] false e = refl
alike-wanted (n ∷ []) false e = refl
alike-wanted (n ∷ []) true e = refl
alike-wanted (n ∷ m ∷ ns) b e = alike-wanted (m ∷ ns) b e

entries-have : (n : ℕ) (e : Entry) → has_place (alike_entries (suc n) e) ≡ true
entries-have zero e = refl
entries-have (suc n) e = refl

entries-fine : (n : ℕ) (e : Entry) → Fine e → are_formed_by rest_is_wanted (alike_entries n e) ≡ true
entries-fine zero e x = refl
entries-fine (suc zero) e x = both-true _ _ x refl
entries-fine (suc (suc n)) e x = both-true _ _ (entries-have n e) (entries-fine (suc n) e x)

-- ---- one row

module _ (convert : Part → Entry) (fine : (p : Part) → Fine (convert p)) where
  fields-fine : (fs : List FieldRow) (more : Fields) → are_formed_fields_by rest_is_wanted more ≡ true → are_formed_fields_by rest_is_wanted (row_fields convert fs more) ≡ true
  fields-fine [] more h = h
  fields-fine (f ∷ fs) more h = both-true _ _ (nullable-fine f.nullable (convert f.part) (fine f.part)) (fields-fine fs more h)

  fields-wanted : (fs : List FieldRow) (more : Fields) → rest_is_wanted more ≡ true → rest_is_wanted (row_fields convert fs more) ≡ true
  fields-wanted [] more h = h
  fields-wanted (f ∷ fs) more h = fields-wanted fs more h

  fields-bare : (fs : List FieldRow) → has_no_rest (rest_of (row_fields convert fs no_fields)) ≡ true
  fields-bare [] = refl
  fields-bare (f ∷ fs) = fields-bare fs

  outside-fine : (o : Option OutsideRow) → are_formed_fields_by rest_is_wanted (outside_fields convert o) ≡ true
  outside-fine None = refl
  outside-fine (Some o) = alike-fine o.names o.keeps_rest (convert o.part) (fine o.part)

  outside-wanted : (o : Option OutsideRow) → rest_is_wanted (outside_fields convert o) ≡ true
  outside-wanted None = refl
  outside-wanted (Some o) = alike-wanted o.names o.keeps_rest (convert o.part)

  places-fine : (ps : List Part) (more : Entries) → are_formed_by rest_is_wanted more ≡ true → are_formed_by rest_is_wanted (row_entries convert ps more) ≡ true
  places-fine [] more h = h
  places-fine (p ∷ ps) more h = both-true _ _ (fine p) (places-fine ps more h)

  body-fine : (tag : TagModel) (closed : Bool) (b : VariantBody) → FineContents (body_content convert tag closed b)
  body-fine tag closed unit_body = refl
  body-fine tag closed (part_body p) = content-fine tag closed (convert p) (fine p)
  body-fine tag closed (fields_body fs) = both-true _ _ (fields-bare fs) (fields-fine fs no_fields refl)

  variants-fine : (tag : TagModel) (closed : Bool) (ws : List VariantRow) → are_formed_variants_by rest_is_wanted (row_variants convert tag closed ws) ≡ true
  variants-fine tag closed [] = refl
  variants-fine tag closed (w ∷ ws) = both-true _ _ (body-fine tag closed w.body) (variants-fine tag closed ws)

  pub row-fine : (name : List ℕ) (w : Row) → HasLeaf w → Fine (entry_of convert name w)
  row-fine name (leaf_row e) h = labeled-fine name e (leaf-formed e h)
  row-fine name (as_it_is_row p) h = fine p
  row-fine name (option_row p) h = fine p
  row-fine name (ruled_row p u) h = fine p
  row-fine name (vec_row p) h = fine p
  row-fine name (set_row p) h = fine p
  row-fine name (array_row p n) h = fine p
  row-fine name (tuple_row ps n p) h = places-fine ps (alike_entries n (convert p)) (entries-fine n (convert p) (fine p))
  row-fine name (map_row k p) h = both-true _ _ (fine k) (fine p)
  row-fine name (pattern_map_row qs p) h = fine p
  row-fine name (struct_row c fs o) h = both-true _ _ (fields-wanted fs (outside_fields convert o) (outside-wanted o)) (fields-fine fs (outside_fields convert o) (outside-fine o))
  row-fine name (enum_row tag c ws) h = variants-fine tag (is_closed convert c ws) ws
  row-fine name (merged_row ps) h = refl
  row-fine name (refused_row c) h = refl

-- ---- items

pub item-fine : (n : List ℕ) (e : Entry) → Fine e → is_formed_shape_by rest_is_wanted (as_item n e).shape ≡ true
item-fine n (item l h) x = x
item-fine n boolean_entry x = x
item-fine n (integer_entry g) x = x
item-fine n text_entry x = x
item-fine n (native_entry f) x = x
item-fine n any_entry x = x
item-fine n unit_entry x = x
item-fine n (option_entry e) x = x
item-fine n (vec_entry e) x = x
item-fine n (set_entry e) x = x
item-fine n (map_entry k e) x = x
item-fine n (tuple_entry us) x = x
item-fine n (array_entry e m) x = x
item-fine n (reference t) x = x
