use Rattle.std.proofs.Common.{refl}
use Rattle.schema_defs.specs.Formats.{is_uuid}
use Rattle.schema_defs.proofs.examples.uuid_examples.Goals as goal

pub returns : goal.returns
unfolding is_uuid
returns c = record {
  hyphenated = refl;
  simple = refl;
  braced = refl;
  urn = refl;
  one_brace = refl;
  other_hyphens = refl;
  other_letter = refl;
  empty = refl;
}
