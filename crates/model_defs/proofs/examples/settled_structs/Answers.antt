use Rattle.std.proofs.Common.{refl}
use Rattle.model_defs.proofs.examples.settled_structs.Goals as goal

pub returns : goal.returns
returns c = record {
  what_no_field_names = refl;
  unless_a_rest_holds_it = refl;
  the_serialize_name = refl;
  in_order_of_names = refl;
  null_is_let_out = refl;
  empty_is_let_out = refl;
  an_empty_map_is_let_out = refl;
  not_without_a_condition = refl;
  null_that_some_holds = refl;
  null_that_whole_holds = refl;
  a_missing_option = refl;
  a_missing_option_let_out = refl;
  a_missing_list = refl;
  a_stated_default = refl;
  not_where_it_is_present = refl;
  a_default_settles = refl;
  a_default_in_a_default = refl;
  a_newtype = refl;
  no_missing_default = refl;
}
