use Rattle.std.proofs.Common.{refl}
use Rattle.std.specs.Str.{chars}
use Rattle.schema_defs.specs.Location.{place}
use Rattle.schema_defs.specs.Formats.{is_uuid, is_ipv4}
use Rattle.schema_defs.specs.Read.{document_of, definitions_of, schema_of, plain_of, numbers_of, texts_of, same_of, lists_of, named_of}
use Rattle.convert_defs.proofs.examples.worked_faults.Goals as goal

pub returns : goal.returns
unfolding chars document_of definitions_of schema_of plain_of numbers_of texts_of same_of lists_of named_of place is_uuid is_ipv4
returns c = record {
  condition = refl;
  condition_beside_a_type = refl;
  formatted_object = refl;
  listed_beside_types = refl;
  lone_format = refl;
  two_kinds_listed = refl;
  list_listed = refl;
  object_listed_beside_null = refl;
  object_listed_of_a_type = refl;
  list_denied_of_a_type = refl;
  list_denied = refl;
  nothing_denied = refl;
  type_denied = refl;
  two_kinds_denied = refl;
  no_names = refl;
  names_by_numbers = refl;
  names_listed_badly = refl;
  names_by_a_format = refl;
  listed_numbers = refl;
  listed_text_and_number = refl;
  pattern = refl;
  pattern_beside_a_format = refl;
  pattern_before_listed_numbers = refl;
  pattern_without_a_type = refl;
  pattern_of_a_constant = refl;
  pattern_of_names = refl;
  pattern_of_a_struct = refl;
  contains_one = refl;
  listed_places_without_sizes = refl;
  too_many_places = refl;
  as_many_places = refl;
  places_that_are_listed = refl;
  deep = refl;
  not_so_deep = refl;
  deep_in_a_branch = refl;
  deep_by_a_branch = refl;
  not_deep_by_a_branch = refl;
  references_are_no_steps = refl;
  definitions_first = refl;
  properties_in_order = refl;
  names_before_members = refl;
  branches_in_order = refl;
  schemas_before_their_parts = refl;
  deep_under_not = refl;
  not_deep_under_not = refl;
  places_of_parts = refl;
  places_of_made = refl;
  longest_chain = refl;
}
