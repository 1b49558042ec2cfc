-- The entries of the program, as entries whose parts are ids.
use Rattle.std.specs.Prelude.{ℕ, List, map, reverse, Option, option_map, codes, string_bytes}
use Rattle.tag_kinds.specs.declared.tag.TagType.{TagType}
use Rattle.tag_kinds.specs.declared.tag.TagType.TheVariants as tags
use Rattle.json_value.specs.View.{kept_view}
use Rattle.conversion_table.specs.Conversions.{rule_view}
use Rattle.model_defs.specs.Model.{TagModel, external_tag, internal_tag, adjacent_tag, untagged}
use Rattle.entry_defs.specs.Entry as defs
use Rattle.entry_defs.specs.Entry.{IntegerName, required, optional, stated}
use Rattle.entry_defs.specs.Space.{Id, FieldAt, RestAt, ContentsAt, unit_at, newtype_at, tuple_at, struct_at, VariantAt, ShapeAt, struct_shape_at, enum_shape_at, newtype_shape_at, EntryAt, boolean_at, integer_at, text_at, native_at, any_at, null_at, option_at, vec_at, set_at, map_at, tuple_entry_at, array_at, reference_at, item_at}
use Rattle.naming_defs.specs.Names.{field_name}
use Rattle.naming_defs.specs.Good.{is_good_name}
use Rattle.entry_types.specs.declared.entry.TypeId.{TypeId}
use Rattle.entry_types.specs.declared.entry.IntName.{IntName}
use Rattle.entry_types.specs.declared.entry.IntName.TheVariants as integers
use Rattle.entry_types.specs.declared.entry.TypeEntry.{TypeEntry}
use Rattle.entry_types.specs.declared.entry.TypeEntry.TheVariants as entries
use Rattle.entry_types.specs.declared.item.ItemEntry.{ItemEntry}
use Rattle.entry_types.specs.declared.item.ItemShape.{ItemShape}
use Rattle.entry_types.specs.declared.item.ItemShape.TheVariants as shapes
use Rattle.entry_types.specs.declared.item.FieldEntry.{FieldEntry}
use Rattle.entry_types.specs.declared.item.State.{State}
use Rattle.entry_types.specs.declared.item.State.TheVariants as states
use Rattle.entry_types.specs.declared.item.VariantEntry.{VariantEntry}
use Rattle.entry_types.specs.declared.item.Content.{Content}
use Rattle.entry_types.specs.declared.item.Content.TheVariants as contents

abbrev pub id_view : TypeId → Id
id_view i = i.0

abbrev pub integer_view : IntName → IntegerName
integer_view integers.I8 = defs.i8
integer_view integers.U8 = defs.u8
integer_view integers.I16 = defs.i16
integer_view integers.U16 = defs.u16
integer_view integers.I32 = defs.i32
integer_view integers.U32 = defs.u32
integer_view integers.I64 = defs.i64
integer_view integers.U64 = defs.u64
integer_view integers.NonZeroU8 = defs.nonzero_u8
integer_view integers.NonZeroU16 = defs.nonzero_u16
integer_view integers.NonZeroU32 = defs.nonzero_u32
integer_view integers.NonZeroU64 = defs.nonzero_u64

abbrev pub tag_view : TagType → TagModel
tag_view tags.External = external_tag
tag_view (tags.Internal t) = internal_tag (string_bytes t)
tag_view (tags.Adjacent t c) = adjacent_tag (string_bytes t) (string_bytes c)
tag_view tags.None = untagged

abbrev pub state_view : State → defs.State
state_view states.Required = required
state_view states.Optional = optional
state_view (states.Stated v) = stated (kept_view v)

abbrev pub field_view : FieldEntry → FieldAt
field_view f = record { identifier = string_bytes f.ident; name = string_bytes f.name; entry = id_view f.ty; state = state_view f.state }

-- the rest is named after the fields and wants the name `extra`
abbrev pub rest_identifier : List FieldAt → List ℕ
rest_identifier fs = field_name is_good_name (reverse (map (λ f. f.identifier) fs)) (map (λ f. f.name) fs) (codes "extra")

abbrev pub rest_at : List FieldAt → Option TypeId → Option RestAt
rest_at fs o = option_map (λ i. record { identifier = rest_identifier fs; entry = id_view i }) o

abbrev pub content_view : Content → ContentsAt
content_view contents.Unit = unit_at
content_view (contents.Newtype i) = newtype_at (id_view i)
content_view (contents.Tuple is) = tuple_at (map id_view is.items)
content_view (contents.Struct fs) = struct_at (map field_view fs.items)

abbrev pub variant_view : VariantEntry → VariantAt
variant_view w = record { identifier = string_bytes w.ident; name = string_bytes w.name; contents = content_view w.content }

abbrev pub shape_view : ItemShape → ShapeAt
shape_view (shapes.Struct fs closed rest) = struct_shape_at closed (map field_view fs.items) (rest_at (map field_view fs.items) rest)
shape_view (shapes.Enum tag ws closed) = enum_shape_at closed (tag_view tag) (map variant_view ws.items)
shape_view (shapes.Newtype i rule) = newtype_shape_at (id_view i) (option_map rule_view rule)

abbrev pub entry_view : TypeEntry → EntryAt
entry_view entries.Bool = boolean_at
entry_view (entries.Integer g) = integer_at (integer_view g)
entry_view entries.Text = text_at
entry_view (entries.Native f) = native_at f
entry_view entries.Any = any_at
entry_view entries.Unit = null_at
entry_view (entries.Option i) = option_at (id_view i)
entry_view (entries.Vec i) = vec_at (id_view i)
entry_view (entries.Set i) = set_at (id_view i)
entry_view (entries.Map k i) = map_at (id_view k) (id_view i)
entry_view (entries.Tuple is) = tuple_entry_at (map id_view is.items)
entry_view (entries.Array i n) = array_at (id_view i) n
entry_view (entries.Reference i) = reference_at (id_view i)
entry_view (entries.Item e) = item_at (string_bytes e.name) (shape_view e.shape)
