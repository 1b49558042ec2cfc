use Rattle.std.proofs.Common.{refl}
use Rattle.model_defs.proofs.examples.settled_enums.Goals as goal

pub returns : goal.returns
returns c = record {
  external_unit = refl;
  external_contents = refl;
  internal_unit = refl;
  internal_struct = refl;
  adjacent_unit = refl;
  adjacent_contents = refl;
  untagged_first = refl;
  untagged_second = refl;
  untagged_unit = refl;
  untagged_of_itself = refl;
  the_tag_stays = refl;
}
