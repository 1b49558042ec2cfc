use Rattle.std.proofs.Common.{◌≡◌, ◌++◌, map, drop}
use Rattle.value_models.specs.FieldView.{fields_view}
use Rattle.json_value.specs.View.{kept_view}
use Rattle.describe_defs.specs.Plain.{types_in}
use Rattle.describe_defs.specs.Written.{type_value}
use Rattle.described_values.proofs.contents.place_values.Given as goal

abbrev pub invariant-loop-field : goal.invariant-loop-field
invariant-loop-field l = map kept_view l.values.items ++ map type_value (types_in (fields_view (drop l.field-index l.fields))) ≡ map type_value (types_in (fields_view l.fields))
