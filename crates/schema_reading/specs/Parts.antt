-- The keywords of a schema that hold no schema, as they are read.
use Rattle.std.specs.Prelude.{map, None, option_map, string_bytes}
use Rattle.schema_defs.specs.Schema as defs
use Rattle.json_value.specs.View.{kept_view}
use Rattle.schema_types.specs.View.{types_view, numbers_view, texts_view}
use Rattle.schema_reading.specs.declared.part.Plain.{Plain}

abbrev pub plain_view : Plain → defs.Plain
plain_view p = record {
  title = option_map string_bytes p.title;
  description = option_map string_bytes p.description;
  default = option_map kept_view p.default;
  const_value = option_map kept_view p.const_value;
  types = option_map types_view p.types;
  format = option_map string_bytes p.format;
  enum_values = option_map (λ v. map kept_view v.items) p.enum_values;
  numbers = option_map numbers_view p.number;
  texts = option_map texts_view p.string;
  reference = option_map string_bytes p.reference;
  walk = None;
}
