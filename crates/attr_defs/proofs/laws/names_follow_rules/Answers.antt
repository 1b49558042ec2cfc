use Rattle.std.proofs.Common.{refl}
use Rattle.attr_defs.proofs.laws.names_follow_rules.Goals as goal

pub returns : goal.returns
returns c = record {
  no_rule = refl;
  written = refl;
  read = refl;
  joins = refl;
  named_stays = refl;
  other_half = refl;
}
