use Rattle.std.proofs.Common.{refl}
use Rattle.container_defs.proofs.examples.defaults_in_tuples.Goals as goal

pub returns : goal.returns
returns c = record {
  behind = refl;
  before = refl;
  all_behind = refl;
  passed_over = refl;
  not_asked = refl;
  of_the_container = refl;
  with_names = refl;
  in_a_variant = refl;
}
