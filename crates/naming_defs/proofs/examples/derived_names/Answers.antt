use Rattle.std.proofs.Common.{refl}
use Rattle.naming_defs.proofs.examples.derived_names.Goals as goal

pub returns : goal.returns
returns c = record {
  underscores = refl;
  one_underscore = refl;
  own_module = refl;
  more = refl;
  the_crate = refl;
  first_helper = refl;
  second_helper = refl;
  longer = refl;
  a_value = refl;
  of_an_item = refl;
  capital = refl;
}
