use Rattle.std.proofs.Common.{refl}
use Rattle.passed_keywords.proofs.examples.passed_examples.Goals as goal

pub returns : goal.returns
returns c = record {
  none = refl;
  at_the_root = refl;
  inside = refl;
  owner_first = refl;
  a_property_is_no_keyword = refl;
  inside_what_is_passed_over = refl;
  line = refl;
}
