-- The model that a variant of the program stands for.
use Rattle.std.specs.Prelude.{List, map, string_bytes}
use Rattle.model_defs.specs.Model.{FieldModel, VariantModel}
use Rattle.value_models.specs.declared.fields.Fields.{Fields}
use Rattle.value_models.specs.declared.variant.Variant.{Variant}
use Rattle.value_models.specs.FieldView.{style_view, fields_view}

-- the fields behind a table of their names
abbrev pub fields_in : Fields → List FieldModel
fields_in f = fields_view f.fields.items

abbrev pub variant_view : Variant → VariantModel
variant_view w = record {
  serialize_name = string_bytes w.serialize_name;
  deserialize_names = map string_bytes w.deserialize_names.items;
  style = style_view w.style;
  fields = fields_in w.fields;
}

abbrev pub variants_view : List Variant → List VariantModel
variants_view ws = map variant_view ws
