use Rattle.std.proofs.Common.{refl}
use Rattle.container_defs.proofs.examples.other_variants.Goals as goal

pub returns : goal.returns
returns c = record {
  of_a_variant_identifier = refl;
  of_an_untagged = refl;
  last = refl;
  not_last = refl;
  no_unit = refl;
  of_a_field_identifier = refl;
  no_unit_of_a_field_identifier = refl;
  untagged_identifier = refl;
}
