-- What a type asks of a typed value that is written: lists, sets and arrays alike, items by what they hold, and boxes not at all.
use Rattle.std.specs.Prelude.{ℕ, List, [], ◌∷◌, Option, Some, None}
use Rattle.json_value.specs.Value.{Value, null}
use Rattle.model_defs.specs.Types.{TypeModel, option_type, boxed_type, vec_type, set_type, map_type, tuple_type, array_type, item_type, types_of}
use Rattle.model_defs.specs.Model.{Style, struct_style, tuple_style, newtype_style, unit_style, FieldModel, VariantModel, TagModel, BodyModel, struct_model, enum_model, ContainerModel, container_named}
use Rattle.typed_defs.specs.Written.{Parts, inner, option_writes, each_writes, map_writes, places_write, struct_writes, enum_writes, scalar_writes}

pub data WrittenShape : Type 0 where
  plain : WrittenShape
  optional : TypeModel → WrittenShape
  each_item : TypeModel → WrittenShape
  by_names : TypeModel → TypeModel → WrittenShape
  in_places : List TypeModel → WrittenShape
  of_struct : List FieldModel → WrittenShape
  of_newtype : TypeModel → WrittenShape
  of_enum : TagModel → List VariantModel → WrittenShape
  no_shape : WrittenShape

abbrev pub newtype_shape : List FieldModel → WrittenShape
newtype_shape (f ∷ []) = of_newtype f.field_type
newtype_shape _ = no_shape

abbrev pub struct_shape : Style → List FieldModel → WrittenShape
struct_shape struct_style fs = of_struct fs
struct_shape newtype_style fs = newtype_shape fs
struct_shape tuple_style fs = no_shape
struct_shape unit_style fs = no_shape

abbrev pub body_shape : BodyModel → WrittenShape
body_shape (struct_model style fs) = struct_shape style fs
body_shape (enum_model tag ws) = of_enum tag ws

abbrev pub item_shape : Option ContainerModel → WrittenShape
item_shape None = no_shape
item_shape (Some m) = body_shape m.body

abbrev pub shape : List ContainerModel → TypeModel → WrittenShape
shape ms (option_type t) = optional t
shape ms (boxed_type t) = shape ms t
shape ms (vec_type t) = each_item t
shape ms (set_type t) = each_item t
shape ms (array_type t n) = each_item t
shape ms (map_type k t) = by_names k t
shape ms (tuple_type ts) = in_places (types_of ts)
shape ms (item_type n) = item_shape (container_named n ms)
shape ms _ = plain

abbrev pub newtype_writes : TypeModel → Parts → Value
newtype_writes t (inner w) = w t
newtype_writes t _ = null

abbrev pub shape_writes : Parts → WrittenShape → Value
shape_writes p plain = scalar_writes p
shape_writes p (optional t) = option_writes t p
shape_writes p (each_item t) = each_writes t p
shape_writes p (by_names k t) = map_writes k t p
shape_writes p (in_places ts) = places_write ts p
shape_writes p (of_struct fs) = struct_writes struct_style fs p
shape_writes p (of_newtype t) = newtype_writes t p
shape_writes p (of_enum tag ws) = enum_writes tag ws p
shape_writes p no_shape = null
