use Rattle.std.proofs.Common.{refl}
use Rattle.schema_defs.specs.Read.{document_of, definitions_of, schema_of, plain_of, numbers_of, texts_of, same_of, lists_of, named_of}
use Rattle.enum_defs.proofs.examples.external_examples.Goals as goal

pub returns : goal.returns
unfolding document_of definitions_of schema_of plain_of numbers_of texts_of same_of lists_of named_of
returns c = record {
  none = refl;
  a_constant = refl;
  constants = refl;
  a_list = refl;
  a_list_of_none = refl;
  typed_texts = refl;
  beside_text_rules = refl;
  beside_number_rules = refl;
  beside_members = refl;
  beside_annotations = refl;
  a_property = refl;
  a_closed_property = refl;
  an_open_property = refl;
  mixed = refl;
  equal_texts = refl;
  equal_listed = refl;
  text_and_property_equal = refl;
  constant_beside_list = refl;
  a_number_listed = refl;
  a_number = refl;
  null_listed = refl;
  another_type = refl;
  a_list_of_types = refl;
  beside_a_format = refl;
  beside_a_reference = refl;
  beside_all_of = refl;
  beside_if = refl;
  a_text_type = refl;
  two_properties = refl;
  no_property = refl;
  no_keyword_of_members = refl;
  not_required = refl;
  required_beyond = refl;
  rest_as_a_schema = refl;
  rest_as_an_empty_schema = refl;
  counted = refl;
  named_by_a_pattern = refl;
  names_bound = refl;
  untyped_object = refl;
  a_reference = refl;
  true_schema = refl;
  false_schema = refl;
}
