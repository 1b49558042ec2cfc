-- What `type`, `enum` and `const` of a schema itself say of a value (JSON Schema Draft 7 validation, section 6.1); the schemas in it are not asked.
use Rattle.std.specs.Prelude.{Bool, ◌&&◌}
use Rattle.json_value.specs.Value.{Value, same}
use Rattle.schema_defs.specs.Schema.{Schema, boolean, object}
use Rattle.schema_defs.specs.Layer.{if_given, types_agree, is_listed}

abbrev pub shallow_agrees : Schema → Value → Bool
shallow_agrees (boolean b) v = b
shallow_agrees (object p ss ls ns) v = if_given (types_agree v) p.types && if_given (is_listed v) p.enum_values && if_given (same v) p.const_value
