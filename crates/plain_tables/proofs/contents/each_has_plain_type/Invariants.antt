use Rattle.std.proofs.Common.{◌≡◌, drop}
use Rattle.std.specs.List.{list_all}
use Rattle.value_models.specs.FieldView.{fields_view}
use Rattle.value_models.specs.ContainersView.{containers_in}
use Rattle.describe_defs.specs.Plain.{is_plain_type, types_in}
use Rattle.plain_tables.specs.Among.{is_among}
use Rattle.plain_tables.proofs.contents.each_has_plain_type.Given as goal

abbrev pub invariant-loop-field : goal.invariant-loop-field
invariant-loop-field l =
    list_all (is_plain_type (is_among (containers_in l.containers))) (types_in (fields_view l.fields)) ≡ list_all (is_plain_type (is_among (containers_in l.containers))) (types_in (fields_view (drop l.field-index l.fields)))
