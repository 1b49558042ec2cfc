use Rattle.std.proofs.Common.{refl}
use Rattle.std.specs.Fmt.{digits}
use Rattle.container_defs.proofs.examples.names_by_rules.Goals as goal

pub returns : goal.returns
unfolding digits
returns c = record {
  fields_of_all = refl;
  not_variants = refl;
  variants_of_all = refl;
  not_fields = refl;
  fields_of_one = refl;
  not_the_variant = refl;
  fields_of_a_struct = refl;
  no_rule = refl;
  has_a_name = refl;
  joins = refl;
  own_joins = refl;
  of_a_number = refl;
}
