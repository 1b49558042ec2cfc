use Rattle.std.proofs.Common.{refl}
use Rattle.schema_defs.specs.Formats.{is_uuid}
use Rattle.schema_texts.proofs.examples.identifier_examples.Goals as goal

pub returns : goal.returns
unfolding is_uuid
returns c = record {
  uuid_taken = refl;
  uuid_refused = refl;
}
