use Rattle.std.proofs.Common.{refl}
use Rattle.schema_defs.specs.Location.{place}
use Rattle.schema_laws.proofs.examples.place_examples.Goals as goal

pub returns : goal.returns
unfolding place
returns c = record {
  itself = refl;
  member = refl;
  item = refl;
  deeper = refl;
  no_such_item = refl;
  no_such_member = refl;
  inside_a_text = refl;
  a_place_of_an_object = refl;
  told = refl;
  told_there = refl;
  told_of_the_second = refl;
  the_first_stands_there = refl;
}
