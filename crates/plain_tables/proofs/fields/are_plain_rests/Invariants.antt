use Rattle.std.proofs.Common.{◌≡◌, drop}
use Rattle.value_models.specs.FieldView.{fields_view}
use Rattle.value_models.specs.ContainersView.{containers_in}
use Rattle.describe_defs.specs.Plain.{are_plain_rests, rests_of}
use Rattle.plain_tables.specs.Among.{no_conversions}
use Rattle.plain_tables.proofs.Picked.{pass}
use Rattle.plain_tables.proofs.fields.are_plain_rests.Given as goal

abbrev pub invariant-loop-field : goal.invariant-loop-field
invariant-loop-field l = are_plain_rests (containers_in l.containers) no_conversions l.closed (rests_of (fields_view l.fields)) ≡ pass (containers_in l.containers) l.closed l.seen (fields_view (drop l.field-index l.fields))
