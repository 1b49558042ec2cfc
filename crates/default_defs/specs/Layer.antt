-- One value against one entry, where it is known what each part of the value, each reference and each stated default comes to.
-- What is taken is what entry_defs says; beside it stands whether the defaults of the fields that the value leaves out come to an end. Parts are read in the order
-- of reading_defs, which isn't serde's everywhere (its derives read what is given before they tell what is missing): items and members as they stand, fields as they are listed and a rest behind them, a newtype before its rule, the variants of an untagged enum one after another.
use Rattle.std.specs.Prelude.{ℕ, ◌==◌, ◌||◌, not, List, [], ◌∷◌, length, Bool, Option, Some, None}
use Rattle.json_value.specs.Value.{Value, text}
use Rattle.schema_defs.specs.Texts.{Relations}
use Rattle.model_defs.specs.Model.{external_tag, internal_tag, adjacent_tag, untagged}
use Rattle.model_defs.specs.Layer.{MemberPart, Parts, list_parts, object_parts, is_null, is_boolean, is_text, is_in_range, has_the_format, is_none, named, without, members_in}
use Rattle.entry_defs.specs.Entry.{Target, State, required, optional, stated, Entry, boolean_entry, integer_entry, text_entry, native_entry, any_entry, unit_entry, option_entry, vec_entry, set_entry, map_entry, tuple_entry, array_entry, reference, item, Shape, struct_shape, enum_shape, newtype_shape, Rest, no_rest, rest, rest_of, Variants, no_variants, variant_then, Contents, unit_contents, newtype_contents, tuple_contents, struct_contents, FieldEntry, VariantEntry, entries_of, fields_of, variants_of}
use Rattle.entry_defs.specs.Layer.{integer_range, others, variant_named, tagged_variant, is_unit, is_unit_named, contents_entry, rule_holds}
use Rattle.default_defs.specs.Found.{Found, refused, ended, if_so, told, both, or_next, given}

-- what a part of the value comes to by an entry
abbrev pub Reader : Type 0
Reader = Entry → Found

-- ---- items and members

abbrev pub items_read : Entry → List Reader → Found
items_read e [] = ended
items_read e (j ∷ js) = both (j e) (items_read e js)

abbrev pub each_read : Entry → Parts Reader → Found
each_read e (list_parts js) = items_read e js
each_read e _ = refused

abbrev pub array_read : Entry → ℕ → Parts Reader → Found
array_read e n (list_parts js) = if_so (length js == n) (items_read e js)
array_read e n _ = refused

abbrev pub members_read : Entry → Entry → List (MemberPart Reader) → Found
members_read k e [] = ended
members_read k e (m ∷ ms) = both (both (m.key k) (m.value e)) (members_read k e ms)

abbrev pub map_read : Entry → Entry → Parts Reader → Found
map_read k e (object_parts ms) = members_read k e ms
map_read k e _ = refused

-- as many items as entries, each by its own
abbrev pub in_places : List Entry → List Reader → Found
in_places [] [] = ended
in_places (e ∷ es) (j ∷ js) = both (j e) (in_places es js)
in_places _ _ = refused

abbrev pub places_read : List Entry → Parts Reader → Found
places_read es (list_parts js) = if_so (length js == length es) (in_places es js)
places_read es _ = refused

-- the values of members that are kept: their names are texts
abbrev pub values_read : Entry → List (MemberPart Reader) → Found
values_read e [] = ended
values_read e (m ∷ ms) = both (m.value e) (values_read e ms)

abbrev pub rest_read : Rest → List (MemberPart Reader) → Found
rest_read no_rest ms = ended
rest_read (rest i e) ms = values_read e ms

-- ---- fields: `missed` says what the stated default of a field comes to

module _ (missed : Entry → Value → Found) where
  abbrev pub left_out : State → Entry → Found
  left_out required e = refused
  left_out optional e = ended
  left_out (stated w) e = given (missed e w)

  -- two members of one name are refused
  abbrev pub field_read : FieldEntry → List (MemberPart Reader) → Found
  field_read f [] = left_out f.state f.entry
  field_read f (m ∷ []) = m.value f.entry
  field_read f (m ∷ n ∷ ms) = refused

  abbrev pub fields_read : List FieldEntry → List (MemberPart Reader) → Found
  fields_read [] ms = ended
  fields_read (f ∷ fs) ms = both (field_read f (named f.name ms)) (fields_read fs ms)

  abbrev pub members_of_struct : Bool → List FieldEntry → Rest → List (MemberPart Reader) → Found
  members_of_struct closed fs o ms = if_so (not closed || is_none (others fs ms)) (both (fields_read fs ms) (rest_read o (others fs ms)))

  abbrev pub struct_read : Bool → List FieldEntry → Rest → Parts Reader → Found
  struct_read closed fs o (object_parts ms) = members_of_struct closed fs o ms
  struct_read closed fs o _ = refused

  -- ---- variants

  abbrev pub contents_read : Bool → Reader → Option VariantEntry → Found
  contents_read closed j None = refused
  contents_read closed j (Some w) = if_so (not (is_unit w.contents)) (j (contents_entry closed w.contents))

  -- the text of a unit variant, or one member named by another, with its contents
  abbrev pub external_read : Bool → List VariantEntry → Value → Parts Reader → Found
  external_read closed ws (text s) ps = told (is_unit_named (variant_named s ws))
  external_read closed ws _ (object_parts (m ∷ [])) = contents_read closed m.value (variant_named m.name ws)
  external_read closed ws _ ps = refused

  -- beside the tag stand the fields
  abbrev pub beside_tag : Bool → List (MemberPart Reader) → Contents → Found
  beside_tag closed ms unit_contents = members_of_struct closed [] no_rest ms
  beside_tag closed ms (struct_contents fs) = members_of_struct closed (fields_of fs) (rest_of fs) ms
  beside_tag closed ms (newtype_contents e) = refused
  beside_tag closed ms (tuple_contents es) = refused

  abbrev pub internal_read : Bool → List ℕ → List (MemberPart Reader) → Option VariantEntry → Found
  internal_read closed tag ms None = refused
  internal_read closed tag ms (Some w) = beside_tag closed (without tag ms) w.contents

  -- the member of the contents, which a unit variant refuses and another needs
  abbrev pub beside_content : Bool → Contents → List (MemberPart Reader) → Found
  beside_content closed c [] = told (is_unit c)
  beside_content closed c (m ∷ ms) = if_so (not (is_unit c)) (m.value (contents_entry closed c))

  abbrev pub adjacent_read : Bool → List ℕ → List ℕ → List (MemberPart Reader) → Option VariantEntry → Found
  adjacent_read closed tag content ms None = refused
  adjacent_read closed tag content ms (Some w) = if_so (not closed || is_none (without content (without tag ms))) (beside_content closed w.contents (named content ms))

  -- ---- entries

  module _ (r : Relations) (v : Value) (parts : Parts Reader) (follows : Target → Found) where
    abbrev mutual
      pub entry_read : Reader
      entry_read boolean_entry = told (is_boolean v)
      entry_read (integer_entry i) = told (is_in_range (integer_range i) v)
      entry_read text_entry = told (is_text v)
      entry_read (native_entry f) = told (has_the_format r f v)
      entry_read any_entry = ended
      entry_read unit_entry = told (is_null v)
      entry_read (option_entry e) = or_next (told (is_null v)) (entry_read e)
      entry_read (vec_entry e) = each_read e parts
      entry_read (set_entry e) = each_read e parts
      entry_read (map_entry k e) = map_read k e parts
      entry_read (tuple_entry es) = places_read (entries_of es) parts
      entry_read (array_entry e n) = array_read e n parts
      entry_read (reference q) = follows q
      entry_read (item n s) = shape_read s

      pub shape_read : Shape → Found
      shape_read (struct_shape closed fs) = struct_read closed (fields_of fs) (rest_of fs) parts
      shape_read (enum_shape closed external_tag ws) = external_read closed (variants_of ws) v parts
      shape_read (enum_shape closed (internal_tag tag) ws) = internal_read closed tag (members_in parts) (tagged_variant tag (variants_of ws) v)
      shape_read (enum_shape closed (adjacent_tag tag content) ws) = adjacent_read closed tag content (members_in parts) (tagged_variant tag (variants_of ws) v)
      shape_read (enum_shape closed untagged ws) = first_read closed ws
      shape_read (newtype_shape e rule) = both (entry_read e) (told (rule_holds r v rule))

      -- by the first variant that takes the same value
      pub first_read : Bool → Variants → Found
      first_read closed no_variants = refused
      first_read closed (variant_then i n c ws) = or_next (same_read closed c) (first_read closed ws)

      pub same_read : Bool → Contents → Found
      same_read closed unit_contents = told (is_null v)
      same_read closed (newtype_contents e) = entry_read e
      same_read closed (tuple_contents es) = places_read (entries_of es) parts
      same_read closed (struct_contents fs) = struct_read closed (fields_of fs) (rest_of fs) parts
