use Rattle.std.proofs.Common.{refl}
use Rattle.container_defs.proofs.examples.empty_enums.Goals as goal

pub returns : goal.returns
returns c = record {
  both_told = refl;
  both_tag = refl;
  alone_told = refl;
  alone_tag = refl;
  rule_told = refl;
  twice_told = refl;
  twice_name = refl;
  nothing_told = refl;
  written_so = refl;
}
