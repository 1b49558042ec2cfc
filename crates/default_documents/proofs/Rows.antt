-- A row each of whose stated defaults is that of the field's part makes an entry inside which each holds, where each holds inside what its parts are converted to and the default of a part
-- holds of what it is converted to.
use Rattle.std.proofs.Common.{◌≡◌, ℕ, zero, suc, List, [], ◌∷◌, Bool, true, false, ◌&&◌, Option, Some, None, sym, true≢false}
use Rattle.std.specs.Prelude.{if◌then◌else◌}
use Rattle.std.specs.List.{AllByRecursion}
use Rattle.json_value.specs.Value.{Value}
use Rattle.model_defs.specs.Model.{TagModel, external_tag, internal_tag, adjacent_tag, untagged}
use Rattle.entry_defs.specs.Entry.{Entry, boolean_entry, integer_entry, text_entry, native_entry, any_entry, unit_entry, option_entry, vec_entry, set_entry, map_entry, tuple_entry, array_entry, reference, item, Entries, Shape, struct_shape, enum_shape, newtype_shape, Fields, no_fields, rest_of, Variants, no_variants, variant_then, Contents, unit_contents, newtype_contents, tuple_contents, struct_contents}
use Rattle.convert_defs.specs.Row.{Part, FieldRow, field_parts, OutsideRow, outside_parts, further_parts, VariantBody, unit_body, part_body, fields_body, body_parts, VariantRow, variants_parts, Row, leaf_row, as_it_is_row, option_row, ruled_row, vec_row, set_row, array_row, tuple_row, map_row, pattern_map_row, struct_row, enum_row, merged_row, refused_row, row_parts}
use Rattle.convert_defs.specs.Owners.{default_of}
use Rattle.convert_defs.specs.Convert.{same_flag, unit_in, has_two_places, is_without_rest, content_of, labeled, nullable_entry, alike_fields, alike_entries, row_fields, row_entries, outside_fields, is_closed, body_content, row_variants, entry_of, as_item}
use Rattle.convert_defs.proofs.Views.{AllParts}
use Rattle.convert_defs.proofs.Rows.{parts-left, parts-right}
use Rattle.convert_walks.specs.Spot.{part_schema}
use Rattle.merged_documents.proofs.Leaves.{are_units, is_leaf, is_leaf_shape, HasLeaf}
use Rattle.default_documents.proofs.Inside.{none_stated, Inside, InsidePlaces, InsideShape, InsideFields, InsideVariants, InsideContents}
use Rattle.default_documents.proofs.States.{OwnField, OwnBody, StatesOwn}

module _ (Holds : Entry → Value → Type 0) where
  -- ---- leaves

  units_inside : (ws : Variants) → are_units ws ≡ true → InsideVariants Holds ws
  units_inside no_variants h = tt
  units_inside (variant_then i n unit_contents ws) h = (tt, units_inside ws h)
  units_inside (variant_then i n (newtype_contents e) ws) h = absurd (true≢false (sym h))
  units_inside (variant_then i n (tuple_contents es) ws) h = absurd (true≢false (sym h))
  units_inside (variant_then i n (struct_contents fs) ws) h = absurd (true≢false (sym h))

  mutual
    leaf_inside : (e : Entry) → is_leaf e ≡ true → Inside Holds e
    leaf_inside boolean_entry h = tt
    leaf_inside (integer_entry g) h = tt
    leaf_inside text_entry h = tt
    leaf_inside (native_entry f) h = tt
    leaf_inside any_entry h = tt
    leaf_inside unit_entry h = tt
    leaf_inside (reference q) h = tt
    leaf_inside (option_entry e) h = leaf_inside e h
    leaf_inside (item n s) h = shape_inside s h
    leaf_inside (vec_entry e) h = absurd (true≢false (sym h))
    leaf_inside (set_entry e) h = absurd (true≢false (sym h))
    leaf_inside (map_entry k e) h = absurd (true≢false (sym h))
    leaf_inside (tuple_entry es) h = absurd (true≢false (sym h))
    leaf_inside (array_entry e n) h = absurd (true≢false (sym h))

    shape_inside : (s : Shape) → is_leaf_shape s ≡ true → InsideShape Holds s
    shape_inside (struct_shape closed fs) h = absurd (true≢false (sym h))
    shape_inside (enum_shape closed tag ws) h = units_inside ws h
    shape_inside (newtype_shape e rule) h = leaf_inside e h

  labeled_inside : (n : List ℕ) (e : Entry) → Inside Holds e → Inside Holds (labeled n e)
  labeled_inside n (item l h) x = x
  labeled_inside n (option_entry e) x = labeled_inside n e x
  labeled_inside n boolean_entry x = x
  labeled_inside n (integer_entry g) x = x
  labeled_inside n text_entry x = x
  labeled_inside n (native_entry f) x = x
  labeled_inside n any_entry x = x
  labeled_inside n unit_entry x = x
  labeled_inside n (vec_entry e) x = x
  labeled_inside n (set_entry e) x = x
  labeled_inside n (map_entry k e) x = x
  labeled_inside n (tuple_entry us) x = x
  labeled_inside n (array_entry e m) x = x
  labeled_inside n (reference t) x = x

  -- ---- options of fields

  -- what holds of an entry holds of it or of the option of it
  as_option : (Says : Entry → Type 0) → ((e : Entry) → Says e → Says (option_entry e)) → (b : Bool) (e : Entry) → Says e → Says (nullable_entry b e)
  as_option Says f false e x = x
  as_option Says f true (option_entry e) x = x
  as_option Says f true (item l h) x = f (item l h) x
  as_option Says f true boolean_entry x = f boolean_entry x
  as_option Says f true (integer_entry g) x = f (integer_entry g) x
  as_option Says f true text_entry x = f text_entry x
  as_option Says f true (native_entry g) x = f (native_entry g) x
  as_option Says f true any_entry x = f any_entry x
  as_option Says f true unit_entry x = f unit_entry x
  as_option Says f true (vec_entry e) x = f (vec_entry e) x
  as_option Says f true (set_entry e) x = f (set_entry e) x
  as_option Says f true (map_entry k e) x = f (map_entry k e) x
  as_option Says f true (tuple_entry us) x = f (tuple_entry us) x
  as_option Says f true (array_entry e m) x = f (array_entry e m) x
  as_option Says f true (reference t) x = f (reference t) x

  -- ---- contents of variants

  unit_inside : (tag : TagModel) → InsideContents Holds (unit_in tag)
  unit_inside external_tag = tt
  unit_inside (internal_tag t) = tt
  unit_inside (adjacent_tag t c) = tt
  unit_inside untagged = tt

  either_inside : (b : Bool) (c k : Contents) → InsideContents Holds c → InsideContents Holds k → InsideContents Holds (if b then c else k)
  either_inside true c k x y = x
  either_inside false c k x y = y

  content_inside : (tag : TagModel) (closed : Bool) (e : Entry) → Inside Holds e → InsideContents Holds (content_of tag closed e)
  content_inside tag closed (tuple_entry us) x = either_inside (has_two_places us) (tuple_contents us) (newtype_contents (tuple_entry us)) x x
  content_inside tag closed unit_entry x = unit_inside tag
  content_inside tag closed (item l (struct_shape c fs)) x = either_inside (same_flag c closed && is_without_rest (rest_of fs)) (struct_contents fs) (newtype_contents (item l (struct_shape c fs))) x x
  content_inside tag closed (item l (enum_shape c t ws)) x = x
  content_inside tag closed (item l (newtype_shape e u)) x = x
  content_inside tag closed boolean_entry x = x
  content_inside tag closed (integer_entry g) x = x
  content_inside tag closed text_entry x = x
  content_inside tag closed (native_entry f) x = x
  content_inside tag closed any_entry x = x
  content_inside tag closed (option_entry e) x = x
  content_inside tag closed (vec_entry e) x = x
  content_inside tag closed (set_entry e) x = x
  content_inside tag closed (map_entry k e) x = x
  content_inside tag closed (array_entry e n) x = x
  content_inside tag closed (reference t) x = x

  -- ---- parts that are alike

  alike_inside : (ns : List (List ℕ)) (b : Bool) (e : Entry) → Inside Holds e → InsideFields Holds (alike_fields ns b e)
  alike_inside [] true e x = x
  alike_inside [] false e x = tt
  alike_inside (n ∷ []) false e x = (λ w h. none_stated w h, x, tt)
  alike_inside (n ∷ []) true e x = x
  alike_inside (n ∷ m ∷ ns) b e x = alike_inside (m ∷ ns) b e x

  -- ---- one row, by what its parts are converted to

  -- of what a part is converted to: what holds of each stated default inside it, and of the default of the part's schema
  abbrev pub Said : (Part → Entry) → Part → Type 0
  Said convert p = Inside Holds (convert p) × ((w : Value) → default_of (part_schema p) ≡ Some w → Holds (convert p) w)

  module _ (of_option : (e : Entry) (w : Value) → Holds e w → Holds (option_entry e) w) (convert : Part → Entry) where
    abbrev IsSaid : Part → Type 0
    IsSaid p = Said convert p

    fields_inside : (fs : List FieldRow) (more : Fields) → AllByRecursion OwnField fs → AllParts IsSaid (field_parts fs) → InsideFields Holds more → InsideFields Holds (row_fields convert fs more)
    fields_inside [] more o h k = k
    fields_inside (f ∷ fs) more o h k = (
      λ w e. as_option (λ x. Holds x w) (λ x. of_option x w) f.nullable (convert f.part) (h.0.1 w (o.0 w e)),
      as_option (λ x. Inside Holds x) (λ x y. y) f.nullable (convert f.part) h.0.0,
      fields_inside fs more o.1 h.1 k,
    )

    outside_inside : (o : Option OutsideRow) → AllParts IsSaid (outside_parts o) → InsideFields Holds (outside_fields convert o)
    outside_inside None h = tt
    outside_inside (Some o) h = alike_inside o.names o.keeps_rest (convert o.part) h.0.0

    places_inside : (ps : List Part) (more : Entries) → AllParts IsSaid ps → InsidePlaces Holds more → InsidePlaces Holds (row_entries convert ps more)
    places_inside [] more h k = k
    places_inside (p ∷ ps) more h k = (h.0.0, places_inside ps more h.1 k)

    further_inside : (n : ℕ) (p : Part) → AllParts IsSaid (further_parts n p) → InsidePlaces Holds (alike_entries n (convert p))
    further_inside zero p h = tt
    further_inside (suc zero) p h = (h.0.0, tt)
    further_inside (suc (suc n)) p h = further_inside (suc n) p h

    body_inside : (tag : TagModel) (closed : Bool) (b : VariantBody) → OwnBody b → AllParts IsSaid (body_parts b) → InsideContents Holds (body_content convert tag closed b)
    body_inside tag closed unit_body o h = tt
    body_inside tag closed (part_body p) o h = content_inside tag closed (convert p) h.0.0
    body_inside tag closed (fields_body fs) o h = fields_inside fs no_fields o h tt

    variants_inside : (tag : TagModel) (closed : Bool) (ws : List VariantRow) → AllByRecursion (λ w. OwnBody w.body) ws → AllParts IsSaid (variants_parts ws) → InsideVariants Holds (row_variants convert tag closed ws)
    variants_inside tag closed [] o h = tt
    variants_inside tag closed (w ∷ ws) o h =
        (body_inside tag closed w.body o.0 (parts-left IsSaid (body_parts w.body) (variants_parts ws) h), variants_inside tag closed ws o.1 (parts-right IsSaid (body_parts w.body) (variants_parts ws) h))

    pub row_inside : (name : List ℕ) (w : Row) → HasLeaf w → StatesOwn w → AllParts IsSaid (row_parts w) → Inside Holds (entry_of convert name w)
    row_inside name (leaf_row e) l o h = labeled_inside name e (leaf_inside e l)
    row_inside name (as_it_is_row p) l o h = h.0.0
    row_inside name (option_row p) l o h = h.0.0
    row_inside name (ruled_row p u) l o h = h.0.0
    row_inside name (vec_row p) l o h = h.0.0
    row_inside name (set_row p) l o h = h.0.0
    row_inside name (array_row p n) l o h = h.0.0
    row_inside name (tuple_row ps n p) l o h =
        places_inside ps (alike_entries n (convert p)) (parts-left IsSaid ps (further_parts n p) h) (further_inside n p (parts-right IsSaid ps (further_parts n p) h))
    row_inside name (map_row k p) l o h = (h.0.0, h.1.0.0)
    row_inside name (pattern_map_row qs p) l o h = (tt, h.0.0)
    row_inside name (struct_row c fs u) l o h =
        fields_inside fs (outside_fields convert u) o (parts-left IsSaid (field_parts fs) (outside_parts u) h) (outside_inside u (parts-right IsSaid (field_parts fs) (outside_parts u) h))
    row_inside name (enum_row tag c ws) l o h = variants_inside tag (is_closed convert c ws) ws o h
    row_inside name (merged_row ps) l o h = tt
    row_inside name (refused_row c) l o h = tt

  -- ---- items

  pub item_inside : (n : List ℕ) (e : Entry) → Inside Holds e → InsideShape Holds (as_item n e).shape
  item_inside n (item l h) x = x
  item_inside n boolean_entry x = x
  item_inside n (integer_entry g) x = x
  item_inside n text_entry x = x
  item_inside n (native_entry f) x = x
  item_inside n any_entry x = x
  item_inside n unit_entry x = x
  item_inside n (option_entry e) x = x
  item_inside n (vec_entry e) x = x
  item_inside n (set_entry e) x = x
  item_inside n (map_entry k e) x = x
  item_inside n (tuple_entry us) x = x
  item_inside n (array_entry e m) x = x
  item_inside n (reference t) x = x
