use Rattle.std.proofs.Common.{◌≡◌, drop, not, bytes_eq}
use Rattle.std.specs.List.{list_all}
use Rattle.value_models.specs.FieldView.{fields_view}
use Rattle.plain_tables.proofs.enums.no_field_named.Given as goal

abbrev pub invariant-loop-field : goal.invariant-loop-field
invariant-loop-field l = list_all (λ f. not (bytes_eq l.name f.serialize_name)) (fields_view l.fields) ≡ list_all (λ f. not (bytes_eq l.name f.serialize_name)) (fields_view (drop l.field-index l.fields))
