use Rattle.std.proofs.Common.{refl}
use Rattle.attr_defs.proofs.laws.tags_are_decided.Goals as goal

pub returns : goal.returns
returns c = record {
  both_told = refl;
  both_tag = refl;
  alone_told = refl;
  alone_tag = refl;
  three_told = refl;
  adjacent_told = refl;
  adjacent_tag = refl;
  on_a_unit = refl;
  on_named = refl;
  on_a_struct = refl;
}
