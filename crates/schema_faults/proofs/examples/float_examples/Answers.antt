use Rattle.std.proofs.Common.{refl}
use Rattle.schema_faults.proofs.examples.float_examples.Goals as goal

pub returns : goal.returns
returns c = record {
  number = refl;
  number_is_no_fraction = refl;
  in_a_list = refl;
  in_a_list_of_all = refl;
  integer = refl;
  bound = refl;
  size = refl;
  multiple = refl;
  deep_in_a_constant = refl;
  in_a_default = refl;
  in_an_enumeration = refl;
  one_place_once = refl;
  unknown_members = refl;
}
