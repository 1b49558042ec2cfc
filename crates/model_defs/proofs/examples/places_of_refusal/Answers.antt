use Rattle.std.proofs.Common.{refl}
use Rattle.schema_defs.specs.Location.{place}
use Rattle.model_defs.proofs.examples.places_of_refusal.Goals as goal

pub returns : goal.returns
unfolding place
returns c = record {
  a_scalar = refl;
  an_item_of_a_list = refl;
  within_an_item = refl;
  under_an_option = refl;
  no_list = refl;
  a_value_of_a_map = refl;
  a_name_of_a_map = refl;
  a_tuple_too_short = refl;
  a_place_of_a_tuple = refl;
  a_place_of_an_array = refl;
  a_missing_field = refl;
  a_field = refl;
  within_a_field = refl;
  fields_in_order = refl;
  closed_first = refl;
  the_second_of_two = refl;
  a_rest = refl;
  a_newtype = refl;
  a_rule = refl;
  before_a_rule = refl;
  external_text = refl;
  external_contents = refl;
  external_unknown = refl;
  external_field = refl;
  internal_without_tag = refl;
  internal_unknown = refl;
  internal_no_text = refl;
  internal_field = refl;
  internal_closed = refl;
  adjacent_other = refl;
  adjacent_unit = refl;
  adjacent_missing = refl;
  adjacent_contents = refl;
  untagged_member = refl;
}
