use Rattle.std.proofs.Common.{refl}
use Rattle.std.specs.Str.{chars}
use Rattle.model_defs.proofs.examples.rules.Goals as goal

pub returns : goal.returns
unfolding chars
returns c = record {
  of_one_character = refl;
  too_short = refl;
  too_long = refl;
  all_patterns = refl;
  not_all_patterns = refl;
  one_pattern = refl;
  no_pattern = refl;
  the_type_first = refl;
  allowed = refl;
  not_allowed = refl;
  allowed_of_another_type = refl;
  denied = refl;
  not_denied = refl;
  without_its_rule = refl;
}
