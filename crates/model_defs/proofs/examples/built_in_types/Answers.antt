use Rattle.std.proofs.Common.{refl}
use Rattle.model_defs.proofs.examples.built_in_types.Goals as goal

pub returns : goal.returns
returns c = record {
  a_boolean = refl;
  no_boolean = refl;
  a_byte = refl;
  above_a_byte = refl;
  below_a_byte = refl;
  a_signed_byte = refl;
  zero_at_nonzero = refl;
  a_fraction = refl;
  a_text = refl;
  no_text = refl;
  a_native = refl;
  no_native = refl;
  any_fraction = refl;
  unit_is_null = refl;
  unit_is_no_list = refl;
  an_option_is_null = refl;
  an_option_is_its_type = refl;
  an_option_is_nothing_else = refl;
  a_box = refl;
  a_box_is_not_null = refl;
  a_vec = refl;
  a_vec_with_a_text = refl;
  a_vec_is_no_object = refl;
  a_set_with_a_repeat = refl;
  a_map = refl;
  a_map_with_a_bad_value = refl;
  a_map_with_a_bad_name = refl;
  a_map_with_good_names = refl;
  names_are_texts = refl;
  a_map_is_no_list = refl;
  a_tuple = refl;
  a_tuple_out_of_order = refl;
  a_tuple_too_short = refl;
  a_tuple_too_long = refl;
  an_array = refl;
  an_array_too_long = refl;
  outside = refl;
  no_such_item = refl;
}
