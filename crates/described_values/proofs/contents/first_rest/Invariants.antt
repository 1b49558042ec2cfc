use Rattle.std.proofs.Common.{◌≡◌, drop}
use Rattle.value_models.specs.FieldView.{fields_view}
use Rattle.describe_defs.specs.Plain.{rests_of}
use Rattle.described_values.specs.Seen.{first_of}
use Rattle.described_values.proofs.contents.first_rest.Given as goal

abbrev pub invariant-loop-field : goal.invariant-loop-field
invariant-loop-field l = first_of (rests_of (fields_view l.fields)) ≡ first_of (rests_of (fields_view (drop l.field-index l.fields)))
