use Rattle.std.proofs.Common.{refl}
use Rattle.model_defs.proofs.examples.enums.Goals as goal

pub returns : goal.returns
returns c = record {
  external_unit = refl;
  external_unknown = refl;
  external_unit_is_no_member = refl;
  external_newtype = refl;
  external_newtype_is_no_text = refl;
  external_newtype_of_its_type = refl;
  external_one_member_alone = refl;
  external_struct = refl;
  external_struct_closed = refl;
  external_tuple = refl;
  external_tuple_too_short = refl;
  internal_unit = refl;
  internal_unit_closed = refl;
  internal_unit_open = refl;
  internal_struct = refl;
  internal_struct_missing = refl;
  internal_struct_closed = refl;
  internal_struct_open = refl;
  internal_without_tag = refl;
  internal_unknown = refl;
  internal_tag_is_a_text = refl;
  internal_newtype = refl;
  internal_is_no_text = refl;
  adjacent_unit = refl;
  adjacent_unit_with_content = refl;
  adjacent_newtype = refl;
  adjacent_newtype_without_content = refl;
  adjacent_struct = refl;
  adjacent_struct_closed = refl;
  adjacent_closed = refl;
  adjacent_open = refl;
  adjacent_without_tag = refl;
  untagged_first = refl;
  untagged_second = refl;
  untagged_second_closed = refl;
  untagged_third = refl;
  untagged_none = refl;
  untagged_unit = refl;
}
