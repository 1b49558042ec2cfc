-- The entry of a row, of the entries of its parts in the order of conversion.
use Rattle.std.specs.Prelude.{◌≡◌, ℕ, List, [], ◌∷◌, map, Bool, false, Option, Some, None}
use Rattle.std.specs.List.{list_any}
use Rattle.model_defs.specs.Model.{TagModel}
use Rattle.entry_defs.specs.Entry.{Entry, any_entry, option_entry, vec_entry, set_entry, map_entry, tuple_entry, array_entry, item, Entries, entry_then, struct_shape, enum_shape, newtype_shape, Fields, no_fields, field_then, Variants, no_variants, variant_then, Contents, unit_contents, struct_contents}
use Rattle.convert_defs.specs.Row.{Part, FieldRow, OutsideRow, VariantBody, unit_body, part_body, fields_body, VariantRow, Closing, by_shape, by_contents, Row, leaf_row, as_it_is_row, option_row, ruled_row, vec_row, set_row, array_row, tuple_row, map_row, pattern_map_row, struct_row, enum_row, merged_row, refused_row, row_parts}
use Rattle.convert_defs.specs.Convert.{content_of, is_closed_struct, pattern_key, labeled, nullable_entry, alike_fields, alike_entries, entry_of}

abbrev pub first_of : List Entry → Entry
first_of [] = any_entry
first_of (e ∷ es) = e

abbrev pub after : List Entry → List Entry
after [] = []
after (e ∷ es) = es

-- ---- fields and places, each of the first entry that is left

abbrev pub built_fields : List FieldRow → List Entry → Fields → Fields
built_fields [] es more = more
built_fields (f ∷ fs) es more = field_then f.name f.name (nullable_entry f.nullable (first_of es)) f.state (built_fields fs (after es) more)

abbrev pub after_fields : List FieldRow → List Entry → List Entry
after_fields [] es = es
after_fields (f ∷ fs) es = after_fields fs (after es)

abbrev pub built_outside : Option OutsideRow → List Entry → Fields
built_outside None es = no_fields
built_outside (Some o) es = alike_fields o.names o.keeps_rest (first_of es)

abbrev pub built_places : List Part → List Entry → Entries → Entries
built_places [] es more = more
built_places (p ∷ ps) es more = entry_then (first_of es) (built_places ps (after es) more)

abbrev pub after_parts : List Part → List Entry → List Entry
after_parts [] es = es
after_parts (p ∷ ps) es = after_parts ps (after es)

-- the places that are listed, and then so many of one entry
abbrev pub built_tuple : List Part → ℕ → List Entry → Entry
built_tuple ps n es = tuple_entry (built_places ps es (alike_entries n (first_of (after_parts ps es))))

-- ---- variants

-- what a variant holds, before it is known whether its enum is closed
pub data HeldD : Type 0 where
  nothing : HeldD
  held : Entry → HeldD
  held_fields : Fields → HeldD

abbrev pub BodyD : Type 0
BodyD = List ℕ × HeldD

abbrev pub body_held : VariantBody → List Entry → HeldD
body_held unit_body es = nothing
body_held (part_body p) es = held (first_of es)
body_held (fields_body fs) es = held_fields (built_fields fs es no_fields)

abbrev pub after_body : VariantBody → List Entry → List Entry
after_body unit_body es = es
after_body (part_body p) es = after es
after_body (fields_body fs) es = after_fields fs es

abbrev pub bodies_held : List VariantRow → List Entry → List BodyD
bodies_held [] es = []
bodies_held (w ∷ ws) es = (w.name, body_held w.body es) ∷ bodies_held ws (after_body w.body es)

abbrev pub is_closed_held : HeldD → Bool
is_closed_held nothing = false
is_closed_held (held e) = is_closed_struct e
is_closed_held (held_fields fs) = false

abbrev pub closed_by : Closing → List BodyD → Bool
closed_by (by_shape c) bs = c
closed_by by_contents bs = list_any (λ b. is_closed_held b.1) bs

abbrev pub held_content : TagModel → Bool → HeldD → Contents
held_content tag closed nothing = unit_contents
held_content tag closed (held e) = content_of tag closed e
held_content tag closed (held_fields fs) = struct_contents fs

abbrev pub held_variants : TagModel → Bool → List BodyD → Variants
held_variants tag closed [] = no_variants
held_variants tag closed (b ∷ bs) = variant_then b.0 b.0 (held_content tag closed b.1) (held_variants tag closed bs)

abbrev pub enum_held : List ℕ → TagModel → Closing → List BodyD → Entry
enum_held name tag closing bs = item name (enum_shape (closed_by closing bs) tag (held_variants tag (closed_by closing bs) bs))

abbrev pub built_enum : List ℕ → TagModel → Closing → List VariantRow → List Entry → Entry
built_enum name tag closing ws es = enum_held name tag closing (bodies_held ws es)

-- ---- rows

abbrev pub built : List ℕ → Row → List Entry → Entry
built name (leaf_row e) es = labeled name e
built name (as_it_is_row p) es = first_of es
built name (option_row p) es = option_entry (first_of es)
built name (ruled_row p rule) es = item name (newtype_shape (first_of es) (Some rule))
built name (vec_row p) es = vec_entry (first_of es)
built name (set_row p) es = set_entry (first_of es)
built name (array_row p n) es = array_entry (first_of es) n
built name (tuple_row ps n p) es = built_tuple ps n es
built name (map_row k p) es = map_entry (first_of es) (first_of (after es))
built name (pattern_map_row qs p) es = map_entry (pattern_key qs) (first_of es)
built name (struct_row closed fs o) es = item name (struct_shape closed (built_fields fs es (built_outside o (after_fields fs es))))
built name (enum_row tag closing ws) es = built_enum name tag closing ws es
built name (merged_row ps) es = any_entry
built name (refused_row c) es = any_entry

-- of what parts are converted to it is what the row is converted to
abbrev pub RowsAreBuilt : Type 0
RowsAreBuilt = (convert : Part → Entry) (name : List ℕ) (w : Row) → built name w (map convert (row_parts w)) ≡ entry_of convert name w
