use Rattle.std.proofs.Common.{refl}
use Rattle.container_defs.proofs.examples.identifiers.Goals as goal

pub returns : goal.returns
returns c = record {
  no_identifier = refl;
  units = refl;
  units_of_variants = refl;
  newtype_at_last = refl;
  newtype_before = refl;
  others_of_fields = refl;
  others_of_variants = refl;
}
