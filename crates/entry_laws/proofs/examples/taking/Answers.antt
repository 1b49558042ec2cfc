use Rattle.std.proofs.Common.{refl}
use Rattle.entry_laws.proofs.examples.taking.Goals as goal

pub returns : goal.returns
returns c = record {
  a_part = refl;
  a_part_alone = refl;
  a_struct = refl;
  a_field_missing = refl;
  a_field_refused = refl;
  a_tuple = refl;
  a_short_tuple = refl;
  behind_the_last = refl;
  a_chain = refl;
  a_chain_of_null = refl;
  a_broken_chain = refl;
  by_its_reference = refl;
  by_the_other_variant = refl;
  by_no_variant = refl;
  of_itself_alone = refl;
}
