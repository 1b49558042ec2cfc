use Rattle.std.proofs.Common.{refl}
use Rattle.std.specs.Str.{chars}
use Rattle.schema_defs.specs.Location.{place}
use Rattle.schema_defs.specs.Formats.{is_uuid, is_ipv4}
use Rattle.schema_defs.specs.Read.{document_of, definitions_of, schema_of, plain_of, numbers_of, texts_of, same_of, lists_of, named_of}
use Rattle.convert_defs.proofs.examples.second_pages.Goals as goal

pub returns : goal.returns
unfolding chars document_of definitions_of schema_of plain_of numbers_of texts_of same_of lists_of named_of place is_uuid is_ipv4
returns c = record {
  external_string_keywords = refl;
  external_unit_content = refl;
  external_content_open_in_a_closed_enum = refl;
  adjacent_closed_and_unit = refl;
  internal_two_candidate_tags = refl;
  internal_unit_in_a_closed_enum = refl;
  internal_mixed = refl;
  untagged_exclusive_by_a_required_member = refl;
  map_value_deeper = refl;
  map_name = refl;
  struct_closed_before_missing = refl;
  struct_fields_in_key_order = refl;
  required_outside_a_closed_one = refl;
  set_of_objects = refl;
  merge_oneof_one_left = refl;
  depth_of_plain_nesting = refl;
  depth_of_a_boolean = refl;
  depth_of_a_branch = refl;
  definitions_first = refl;
  reference_escapes = refl;
  reference_with_a_raw_slash = refl;
}
