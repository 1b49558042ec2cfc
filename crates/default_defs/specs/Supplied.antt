-- What a default comes to: it is refused by its entry; or the defaults that reading it needs, for the fields that it leaves out, and those that these need in turn, come to an end; or they don't.
use Rattle.std.specs.Prelude.{ℕ, zero, suc, ◌+◌, List, [], ◌∷◌, Option, Some, None}
use Rattle.json_value.specs.Value as value
use Rattle.json_value.specs.Value.{Value, Items, Members, null, number, fraction, text, list, object, item, no_items, member, no_members}
use Rattle.schema_defs.specs.Texts.{Relations}
use Rattle.model_defs.specs.Layer.{MemberPart, Parts, no_parts, list_parts, object_parts}
use Rattle.entry_defs.specs.Entry as entry
use Rattle.entry_defs.specs.Entry.{Target, State, required, optional, stated, Entry, option_entry, vec_entry, set_entry, map_entry, tuple_entry, array_entry, Entries, no_entries, entry_then, entry_again, Shape, struct_shape, enum_shape, newtype_shape, Fields, no_fields, field_then, field_again, rest_field, Variants, no_variants, variant_then, Contents, unit_contents, newtype_contents, tuple_contents, struct_contents}
use Rattle.entry_defs.specs.Table.{ItemEntry, TargetEntry, Table, target_item, allowed}
use Rattle.default_defs.specs.Found.{Found, refused, endless}
use Rattle.default_defs.specs.Layer.{Reader, entry_read, shape_read}

-- ---- how many stated defaults stand in an entry

abbrev pub stated_by : State → ℕ
stated_by required = 0
stated_by optional = 0
stated_by (stated v) = 1

abbrev mutual
  pub stated_in : Entry → ℕ
  stated_in (option_entry e) = stated_in e
  stated_in (vec_entry e) = stated_in e
  stated_in (set_entry e) = stated_in e
  stated_in (map_entry k e) = stated_in k + stated_in e
  stated_in (tuple_entry es) = stated_in_entries es
  stated_in (array_entry e n) = stated_in e
  stated_in (entry.item n s) = stated_in_shape s
  stated_in _ = 0

  pub stated_in_entries : Entries → ℕ
  stated_in_entries no_entries = 0
  stated_in_entries (entry_then e es) = stated_in e + stated_in_entries es
  stated_in_entries (entry_again es) = stated_in_entries es

  pub stated_in_shape : Shape → ℕ
  stated_in_shape (struct_shape closed fs) = stated_in_fields fs
  stated_in_shape (enum_shape closed tag ws) = stated_in_variants ws
  stated_in_shape (newtype_shape e rule) = stated_in e

  pub stated_in_fields : Fields → ℕ
  stated_in_fields no_fields = 0
  stated_in_fields (field_then i n e s fs) = stated_by s + stated_in e + stated_in_fields fs
  stated_in_fields (field_again i n fs) = stated_in_fields fs
  stated_in_fields (rest_field i e) = stated_in e

  pub stated_in_variants : Variants → ℕ
  stated_in_variants no_variants = 0
  stated_in_variants (variant_then i n c ws) = stated_in_contents c + stated_in_variants ws

  pub stated_in_contents : Contents → ℕ
  stated_in_contents unit_contents = 0
  stated_in_contents (newtype_contents e) = stated_in e
  stated_in_contents (tuple_contents es) = stated_in_entries es
  stated_in_contents (struct_contents fs) = stated_in_fields fs

abbrev pub stated_in_targets : List TargetEntry → ℕ
stated_in_targets [] = 0
stated_in_targets (t ∷ ts) = stated_in_shape t.led_to.shape + stated_in_targets ts

-- ---- reading

abbrev pub item_read : (Shape → Found) → Option ItemEntry → Found
item_read j None = refused
item_read j (Some i) = j i.shape

module _ (table : Table) (relations : Relations) where
  -- where it is known what the stated default of a field comes to
  module _ (missed : Entry → Value → Found) where
    -- a reference at this value, where so many may still be followed
    abbrev pub follows : Value → Parts Reader → ℕ → Target → Found
    follows v parts zero q = refused
    follows v parts (suc k) q = item_read (shape_read missed relations v parts (follows v parts k)) (target_item table q)

    abbrev pub read_within : Value → Parts Reader → ℕ → Reader
    read_within v parts k e = entry_read missed relations v parts (follows v parts k) e

    -- a name is read as a text
    abbrev pub name_read : List ℕ → Reader
    name_read n = read_within (text n) no_parts (allowed table)

    abbrev mutual
      pub value_read : Value → Reader
      value_read null = read_within null no_parts (allowed table)
      value_read (value.boolean b) = read_within (value.boolean b) no_parts (allowed table)
      value_read (number z) = read_within (number z) no_parts (allowed table)
      value_read fraction = read_within fraction no_parts (allowed table)
      value_read (text s) = read_within (text s) no_parts (allowed table)
      value_read (list xs) = read_within (list xs) (list_parts (item_readers xs)) (allowed table)
      value_read (object ms) = read_within (object ms) (object_parts (member_readers ms)) (allowed table)

      pub item_readers : Items → List Reader
      item_readers no_items = []
      item_readers (item v vs) = value_read v ∷ item_readers vs

      pub member_readers : Members → List (MemberPart Reader)
      member_readers no_members = []
      member_readers (member k v ms) = record { name = k; key = name_read k; value = value_read v } ∷ member_readers ms

    abbrev pub parts_of : Value → Parts Reader
    parts_of (list xs) = list_parts (item_readers xs)
    parts_of (object ms) = object_parts (member_readers ms)
    parts_of _ = no_parts

  -- where so many defaults may be read inside one another
  abbrev pub read_inside : ℕ → Entry → Value → Found
  read_inside zero e v = endless
  read_inside (suc k) e v = value_read (read_inside k) v e

  -- Each stated default stands at a field of the table or of the entry: where one more is read inside the others, one of them is read inside itself, and so without end.
  abbrev pub supplied : Entry → Value → Found
  supplied e v = read_inside (suc (stated_in_targets table.targets + stated_in e)) e v
