use Rattle.std.proofs.Common.{refl}
use Rattle.attr_defs.proofs.laws.names_are_set.Goals as goal

pub returns : goal.returns
returns c = record {
  unknown_rule_once = refl;
  twice_told = refl;
  twice_written = refl;
  twice_read = refl;
  own_name = refl;
  half_told = refl;
  half_written = refl;
  half_read = refl;
  wrong_half = refl;
  rules = refl;
  fields_rules = refl;
}
