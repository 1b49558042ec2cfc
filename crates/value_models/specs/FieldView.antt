-- The model that a field of the program stands for.
use Rattle.std.specs.Prelude.{List, map, string_bytes}
use Rattle.model_defs.specs.Model as defs
use Rattle.model_defs.specs.Model.{struct_style, tuple_style, newtype_style, unit_style, DefaultModel, no_default, own_default, stated_default, HelperModel, no_helper, some_helper, whole_helper, FieldModel}
use Rattle.value_models.specs.declared.field.Style as style
use Rattle.value_models.specs.declared.field.FieldDefault as default'
use Rattle.value_models.specs.declared.field.Helper as helper
use Rattle.value_models.specs.declared.field.Field.{Field}
use Rattle.value_models.specs.declared.field.Style.TheVariants as styles
use Rattle.value_models.specs.declared.field.FieldDefault.TheVariants as defaults
use Rattle.value_models.specs.declared.field.Helper.TheVariants as helpers
use Rattle.value_models.specs.TypeView.{type_view}

abbrev pub style_view : style.Style → defs.Style
style_view styles.Struct = struct_style
style_view styles.Tuple = tuple_style
style_view styles.Newtype = newtype_style
style_view styles.Unit = unit_style

abbrev pub default_view : default'.FieldDefault → DefaultModel
default_view defaults.Nothing = no_default
default_view defaults.Own = own_default
default_view (defaults.Stated n) = stated_default n

abbrev pub helper_view : helper.Helper → HelperModel
helper_view helpers.Nothing = no_helper
helper_view helpers.Inner = some_helper
helper_view helpers.Whole = whole_helper

abbrev pub field_view : Field → FieldModel
field_view f = record {
  has_name = f.has_name;
  serialize_name = string_bytes f.serialize_name;
  deserialize_names = map string_bytes f.deserialize_names.items;
  field_type = type_view f.field_type;
  default = default_view f.default;
  helper = helper_view f.helper;
  skip = f.skip;
  is_rest = f.is_rest;
}

abbrev pub fields_view : List Field → List FieldModel
fields_view fs = map field_view fs
