use Rattle.std.proofs.Common.{refl}
use Rattle.schema_faults.proofs.examples.reference_examples.Goals as goal

pub returns : goal.returns
returns c = record {
  all = refl;
  bad = refl;
  root = refl;
  either_keyword = refl;
  other_keyword = refl;
  not_decoded = refl;
  slash_as_it_stands = refl;
  no_percent_signs = refl;
  no_property = refl;
  without_a_mark = refl;
  empty = refl;
  at_the_root_alone = refl;
}
