-- Which values the entry with an id takes. A space is read as a table in which each id is a target: the entry there has its own form, with references to the ids of its parts.
use Rattle.std.specs.Prelude.{zero, suc, List, [], ◌∷◌, Bool, Option, None, Some}
use Rattle.json_value.specs.Value.{Value}
use Rattle.schema_defs.specs.Texts.{Relations}
use Rattle.entry_defs.specs.Entry.{Target, definition, Entry, boolean_entry, integer_entry, text_entry, native_entry, any_entry, unit_entry, option_entry, vec_entry, set_entry, map_entry, tuple_entry, array_entry, reference, item, Entries, no_entries, entry_then, Shape, struct_shape, enum_shape, newtype_shape, Fields, no_fields, field_then, rest_field, Variants, no_variants, variant_then, Contents, unit_contents, newtype_contents, tuple_contents, struct_contents}
use Rattle.entry_defs.specs.Space.{Id, FieldAt, RestAt, ContentsAt, unit_at, newtype_at, tuple_at, struct_at, VariantAt, ShapeAt, struct_shape_at, enum_shape_at, newtype_shape_at, EntryAt, boolean_at, integer_at, text_at, native_at, any_at, null_at, option_at, vec_at, set_at, map_at, tuple_entry_at, array_at, reference_at, item_at, Space}
use Rattle.entry_defs.specs.Table.{ItemEntry, TargetEntry, Table}
use Rattle.entry_defs.specs.Takes.{takes}

-- an id as what a reference leads to: each id has its own key
abbrev pub id_target : Id → Target
id_target i = definition (i ∷ [])

-- what stands at an id, as a part
abbrev pub part_at : Id → Entry
part_at i = reference (id_target i)

abbrev pub parts_at : List Id → Entries
parts_at [] = no_entries
parts_at (j ∷ js) = entry_then (part_at j) (parts_at js)

abbrev pub fields_at : List FieldAt → Option RestAt → Fields
fields_at [] None = no_fields
fields_at [] (Some p) = rest_field p.identifier (part_at p.entry)
fields_at (g ∷ gs) p = field_then g.identifier g.name (part_at g.entry) g.state (fields_at gs p)

abbrev pub contents_at : ContentsAt → Contents
contents_at unit_at = unit_contents
contents_at (newtype_at j) = newtype_contents (part_at j)
contents_at (tuple_at js) = tuple_contents (parts_at js)
contents_at (struct_at gs) = struct_contents (fields_at gs None)

abbrev pub variants_at : List VariantAt → Variants
variants_at [] = no_variants
variants_at (x ∷ xs) = variant_then x.identifier x.name (contents_at x.contents) (variants_at xs)

abbrev pub shape_at : ShapeAt → Shape
shape_at (struct_shape_at closed gs p) = struct_shape closed (fields_at gs p)
shape_at (enum_shape_at closed tag xs) = enum_shape closed tag (variants_at xs)
shape_at (newtype_shape_at j rule) = newtype_shape (part_at j) rule

-- an entry with its parts behind references
abbrev pub form_at : EntryAt → Entry
form_at boolean_at = boolean_entry
form_at (integer_at g) = integer_entry g
form_at text_at = text_entry
form_at (native_at f) = native_entry f
form_at any_at = any_entry
form_at null_at = unit_entry
form_at (option_at j) = option_entry (part_at j)
form_at (vec_at j) = vec_entry (part_at j)
form_at (set_at j) = set_entry (part_at j)
form_at (map_at l j) = map_entry (part_at l) (part_at j)
form_at (tuple_entry_at js) = tuple_entry (parts_at js)
form_at (array_at j n) = array_entry (part_at j) n
form_at (reference_at j) = part_at j
form_at (item_at n s) = item n (shape_at s)

-- references lead to items: a newtype without a rule takes what it holds
abbrev pub held_at : EntryAt → ItemEntry
held_at x = record { name = []; shape = newtype_shape (form_at x) None }

abbrev pub targets_from : Id → Space → List TargetEntry
targets_from i [] = []
targets_from i (x ∷ xs) = record { target = id_target i; led_to = held_at x } ∷ targets_from (suc i) xs

abbrev pub table_at : Space → Table
table_at space = record { targets = targets_from zero space; trees = [] }

-- whether the entry with that id takes the value
abbrev pub takes_at : Space → Relations → Id → Value → Bool
takes_at space r i v = takes (table_at space) r (part_at i) v
