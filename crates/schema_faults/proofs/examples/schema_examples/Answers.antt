use Rattle.std.proofs.Common.{refl}
use Rattle.schema_defs.specs.Location.{place}
use Rattle.schema_faults.proofs.examples.schema_examples.Goals as goal

pub returns : goal.returns
unfolding place
returns c = record {
  keywords_rise = (refl, (refl, (refl, (refl, (refl, (refl, (refl, (refl, (refl, (refl, (refl, (refl, (refl, (refl, (refl, (refl, (refl, (refl, (refl, (refl, (refl, (refl, (refl, (refl, (refl, (refl, (refl, (refl, (refl, (refl, (refl, (refl, (refl, (refl, (tt, tt)))))))))))))))))))))))))))))))))));
  boolean = refl;
  owner_first = refl;
  by_keyword = refl;
  by_place = refl;
  one_or_a_list = refl;
  definitions_at_the_root_alone = refl;
  conditions_are_not_read = refl;
  a_name_is_no_keyword = refl;
}
