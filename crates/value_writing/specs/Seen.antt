-- What writing goes through, as it is seen.
use Rattle.std.specs.Prelude.{ℕ, List, map, String, string_bytes, Option, Some, None, option_map}
use Rattle.std.specs.declared.alloc.Global.{Global}
use Rattle.serde_json.specs.View as json
use Rattle.serde_json.specs.declared.value.Value as value'
use Rattle.json_value.specs.Value.{Members}
use Rattle.json_value.specs.View.{members_of}
use Rattle.value_models.specs.TypeView.{type_view, types_view}
use Rattle.value_models.specs.FieldView.{fields_view}
use Rattle.value_models.specs.VariantView.{variants_view}
use Rattle.value_models.specs.ContainerView.{tag_view}
use Rattle.value_writing.specs.Shape.{WrittenShape, plain, optional, each_item, by_names, in_places, of_struct, of_newtype, of_enum, no_shape}
use Rattle.value_writing.specs.declared.shape.Shape.{Shape}
use Rattle.value_writing.specs.declared.shape.Shape.TheVariants as shapes

abbrev pub kept_members : List (String Global × value'.Value) → Members
kept_members es = members_of (json.members_view es)

abbrev pub shape_view : Shape → WrittenShape
shape_view shapes.Plain = plain
shape_view (shapes.Optional t) = optional (type_view t.now)
shape_view (shapes.Each t) = each_item (type_view t.now)
shape_view (shapes.Named k t) = by_names (type_view k.now) (type_view t.now)
shape_view (shapes.Places ts) = in_places (types_view ts.now)
shape_view (shapes.Struct fs) = of_struct (fields_view fs.now)
shape_view (shapes.Newtype t) = of_newtype (type_view t.now)
shape_view (shapes.Enum t ws) = of_enum (tag_view t.now) (variants_view ws.now)
shape_view shapes.Nothing = no_shape
