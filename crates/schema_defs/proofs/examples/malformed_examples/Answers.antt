use Rattle.std.proofs.Common.{refl}
use Rattle.schema_defs.specs.Read.{document_of, definitions_of, schema_of, plain_of, numbers_of, texts_of, same_of, lists_of, named_of}
use Rattle.schema_defs.proofs.examples.malformed_examples.Goals as goal

pub returns : goal.returns
unfolding document_of definitions_of schema_of plain_of numbers_of texts_of same_of lists_of named_of
returns c = record {
  number = refl;
  list = refl;
  unknown_type = refl;
  unknown_type_in_a_list = refl;
  type_of_another_kind = refl;
  enum_of_another_kind = refl;
  title_of_another_kind = refl;
  format_of_another_kind = refl;
  negative_size = refl;
  size_too_great = refl;
  multiple_below_one = refl;
  bound_of_another_kind = refl;
  fraction_as_bound = refl;
  fraction_as_size = refl;
  fraction_in_a_constant = refl;
  exclusive_by_a_boolean = refl;
  empty_all_of = refl;
  all_of_no_list = refl;
  member_of_any_of = refl;
  not_a_schema = refl;
  items_no_schema = refl;
  items_of_none = refl;
  unique_by_a_number = refl;
  required_no_list = refl;
  required_no_text = refl;
  properties_no_object = refl;
  property_no_schema = refl;
  reference_no_text = refl;
  deep_inside = refl;
  definition_no_schema = refl;
  definitions_no_object = refl;
  one_name_under_both = refl;
}
