-- The type that a type of the program stands for.
use Rattle.std.specs.Prelude.{List, map, string_bytes}
use Rattle.model_defs.specs.Types.{TypeModel, boolean_type, integer_type, text_type, native_type, any_type, unit_type, option_type, boxed_type, vec_type, set_type, map_type, tuple_type, array_type, item_type, outside_type, types}
use Rattle.value_models.specs.declared.value_type.ValueType.{ValueType, fold-ValueType}
use Rattle.value_models.specs.declared.value_type.ValueType.TheOpen.{ValueType-F}

-- one level, with the types inside already seen
abbrev pub type_step : ValueType-F TypeModel → TypeModel
type_step ValueType-F.Boolean = boolean_type
type_step (ValueType-F.Integer l g) = integer_type (record { least = l; greatest = g })
type_step ValueType-F.Text = text_type
type_step (ValueType-F.Native f) = native_type f
type_step ValueType-F.Any = any_type
type_step ValueType-F.Unit = unit_type
type_step (ValueType-F.Optional t) = option_type t.value
type_step (ValueType-F.Boxed t) = boxed_type t.value
type_step (ValueType-F.List t) = vec_type t.value
type_step (ValueType-F.Set t) = set_type t.value
type_step (ValueType-F.Map k t) = map_type k.value t.value
type_step (ValueType-F.Tuple ts) = tuple_type (types ts.items)
type_step (ValueType-F.Array t n) = array_type t.value n
type_step (ValueType-F.Item s) = item_type (string_bytes s)
type_step ValueType-F.Outside = outside_type

abbrev pub type_view : ValueType → TypeModel
type_view = fold-ValueType TypeModel type_step

abbrev pub types_view : List ValueType → List TypeModel
types_view ts = map type_view ts
