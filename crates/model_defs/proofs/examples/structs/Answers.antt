use Rattle.std.proofs.Common.{refl}
use Rattle.model_defs.proofs.examples.structs.Goals as goal

pub returns : goal.returns
returns c = record {
  in_order = refl;
  of_its_type = refl;
  missing = refl;
  closed_to_others = refl;
  open_to_others = refl;
  no_list = refl;
  without_fields = refl;
  second_name = refl;
  both_names = refl;
  first_field_with_the_name = refl;
  not_the_second_field = refl;
  a_rest = refl;
  a_rest_of_its_type = refl;
  a_rest_before_the_field = refl;
  a_rest_has_no_name = refl;
  a_rest_may_be_empty = refl;
}
