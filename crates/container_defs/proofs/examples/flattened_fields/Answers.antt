use Rattle.std.proofs.Common.{refl}
use Rattle.container_defs.proofs.examples.flattened_fields.Goals as goal

pub returns : goal.returns
returns c = record {
  in_a_tuple = refl;
  in_a_newtype = refl;
  with_a_name = refl;
  in_variants = refl;
}
