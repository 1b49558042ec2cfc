use Rattle.std.proofs.Common.{◌≡◌, [], drop}
use Rattle.name_tables.specs.Names.{all_entered}
use Rattle.value_models.specs.Names.{field_names}
use Rattle.value_models.specs.FieldView.{fields_view}
use Rattle.value_models.proofs.fields.names_of.Given as goal

abbrev pub invariant-loop-place : goal.invariant-loop-place
invariant-loop-place l = all_entered (field_names l.place (fields_view (drop l.place l.fields))) l.names ≡ all_entered (field_names 0 (fields_view l.fields)) []
