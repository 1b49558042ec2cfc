use Rattle.std.proofs.Common.{◌≡◌, drop}
use Rattle.value_models.specs.FieldView.{fields_view}
use Rattle.value_models.specs.ContainersView.{containers_in}
use Rattle.plain_tables.proofs.Picked.{are_fine}
use Rattle.plain_tables.proofs.fields.each_is_plain.Given as goal

abbrev pub invariant-loop-field : goal.invariant-loop-field
invariant-loop-field l = are_fine (containers_in l.table.containers) l.all (fields_view l.fields) ≡ are_fine (containers_in l.table.containers) l.all (fields_view (drop l.field-index l.fields))
