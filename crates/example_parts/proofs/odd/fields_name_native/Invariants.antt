use Rattle.std.proofs.Common.{◌≡◌, drop}
use Rattle.std.specs.List.{list_any}
use Rattle.value_models.specs.FieldView.{fields_view}
use Rattle.example_defs.specs.Outside.{names_native}
use Rattle.example_parts.proofs.OddTypes.{of_fields}
use Rattle.example_parts.proofs.odd.fields_name_native.Given as goal

abbrev pub invariant-loop-field : goal.invariant-loop-field
invariant-loop-field l = list_any names_native (of_fields (fields_view l.fields)) ≡ list_any names_native (of_fields (fields_view (drop l.field-index l.fields)))
