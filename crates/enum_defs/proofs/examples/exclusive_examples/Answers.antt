use Rattle.std.proofs.Common.{refl}
use Rattle.schema_defs.specs.Read.{document_of, definitions_of, schema_of, plain_of, numbers_of, texts_of, same_of, lists_of, named_of}
use Rattle.enum_defs.proofs.examples.exclusive_examples.Goals as goal

pub returns : goal.returns
unfolding document_of definitions_of schema_of plain_of numbers_of texts_of same_of lists_of named_of
returns c = record {
  none = refl;
  one = refl;
  other_kinds = refl;
  false_beside = refl;
  false_twice = refl;
  other_tags = refl;
  a_name_that_is_refused = refl;
  a_name_that_is_refused_before = refl;
  same_kind = refl;
  other_texts = refl;
  numbers = refl;
  true_beside = refl;
  equal_tags = refl;
  tag_not_required = refl;
  tags_under_other_names = refl;
  a_name_that_is_not_required = refl;
  a_name_that_is_not_refused = refl;
  one_pair_of_three = refl;
}
