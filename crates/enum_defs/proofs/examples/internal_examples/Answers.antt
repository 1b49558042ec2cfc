use Rattle.std.proofs.Common.{refl}
use Rattle.schema_defs.specs.Read.{document_of, definitions_of, schema_of, plain_of, numbers_of, texts_of, same_of, lists_of, named_of}
use Rattle.enum_defs.proofs.examples.internal_examples.Goals as goal

pub returns : goal.returns
unfolding document_of definitions_of schema_of plain_of numbers_of texts_of same_of lists_of named_of
returns c = record {
  tag_alone = refl;
  one_schema = refl;
  with_others = refl;
  closed_ones = refl;
  listed_tag = refl;
  typed_tag = refl;
  first_of_two_tags = refl;
  second_where_the_first_is_equal = refl;
  second_where_the_first_is_optional = refl;
  none = refl;
  tag_not_required = refl;
  not_required_in_one = refl;
  equal_texts = refl;
  no_tag_in_one = refl;
  tag_of_two_texts = refl;
  tag_with_a_length = refl;
  tag_by_both = refl;
  a_number_tag = refl;
  tag_by_a_reference = refl;
  rest_as_a_schema = refl;
  a_text_beside = refl;
  false_beside = refl;
  a_reference_beside = refl;
}
