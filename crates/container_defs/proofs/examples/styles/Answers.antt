use Rattle.std.proofs.Common.{refl}
use Rattle.container_defs.proofs.examples.styles.Goals as goal

pub returns : goal.returns
returns c = record {
  with_names = refl;
  no_names = refl;
  one = refl;
  two = refl;
  no_places = refl;
  without_fields = refl;
  enums = refl;
  of_variants = refl;
  by_name = refl;
  by_number = refl;
  in_variants = refl;
}
