use Rattle.std.proofs.Common.{refl}
use Rattle.schema_defs.specs.Read.{document_of, definitions_of, schema_of, plain_of, numbers_of, texts_of, same_of, lists_of, named_of}
use Rattle.enum_defs.proofs.examples.adjacent_examples.Goals as goal

pub returns : goal.returns
unfolding document_of definitions_of schema_of plain_of numbers_of texts_of same_of lists_of named_of
returns c = record {
  both = refl;
  one_schema = refl;
  one_without_content = refl;
  tag_after_content = refl;
  closed_ones = refl;
  content_constant_in_one = refl;
  content_missing_and_constant = refl;
  none = refl;
  a_second_constant = refl;
  a_second_constant_equal = refl;
  tag_not_required = refl;
  content_not_required = refl;
  equal_texts = refl;
  three_properties = refl;
  tag_alone = refl;
  no_tag = refl;
  no_tag_in_one = refl;
  an_object_without_keywords = refl;
  rest_as_a_schema = refl;
  false_beside = refl;
}
