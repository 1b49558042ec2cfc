use Rattle.std.proofs.Common.{◌≡◌, drop}
use Rattle.value_models.specs.FieldView.{fields_view}
use Rattle.describe_defs.specs.Plain.{stand_once}
use Rattle.plain_tables.specs.Apart.{new_names}
use Rattle.plain_tables.proofs.Once.{names_of}
use Rattle.plain_tables.proofs.names.fields_stand_once.Given as goal

abbrev pub invariant-loop-field : goal.invariant-loop-field
invariant-loop-field l = stand_once (names_of l.all (fields_view l.fields)) ≡ new_names l.names (names_of l.all (fields_view (drop l.field-index l.fields)))
