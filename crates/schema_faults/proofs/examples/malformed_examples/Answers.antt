use Rattle.std.proofs.Common.{refl}
use Rattle.schema_defs.specs.Location.{place}
use Rattle.schema_faults.proofs.examples.malformed_examples.Goals as goal

pub returns : goal.returns
unfolding place
returns c = record {
  booleans = refl;
  root_number = refl;
  root_list = refl;
  properties_list = refl;
  items_number = refl;
  not_number = refl;
  title_number = refl;
  reference_number = refl;
  pattern_boolean = refl;
  unknown_type = refl;
  type_of_another_kind = refl;
  unknown_type_in_a_list = refl;
  no_text_in_a_type_list = refl;
  enum_of_another_kind = refl;
  negative_size = refl;
  size_too_great = refl;
  size_of_another_kind = refl;
  greatest_size = refl;
  fraction_as_size = refl;
  multiple_of_zero = refl;
  negative_multiple = refl;
  multiple_of_another_kind = refl;
  fraction_as_multiple = refl;
  bound_of_another_kind = refl;
  negative_bound = refl;
  empty_all_of = refl;
  empty_lists = refl;
  one_of_a_schema = refl;
  required_number = refl;
  required_text = refl;
  unique_number = refl;
  defs_list = refl;
  member_of_all_of = refl;
  item_by_place = refl;
  property = refl;
  definition = refl;
  one_name_under_both = refl;
  two_names = refl;
  unknown_members = refl;
  no_definitions_below = refl;
  any_condition = refl;
  siblings_of_a_reference = refl;
  inside_a_sibling = refl;
  owner_before_children = refl;
}
