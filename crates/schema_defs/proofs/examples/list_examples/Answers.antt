use Rattle.std.proofs.Common.{refl}
use Rattle.schema_defs.specs.Read.{document_of, definitions_of, schema_of, plain_of, numbers_of, texts_of, same_of, lists_of, named_of}
use Rattle.schema_defs.proofs.examples.list_examples.Goals as goal

pub returns : goal.returns
unfolding document_of definitions_of schema_of plain_of numbers_of texts_of same_of lists_of named_of
returns c = record {
  each_item = refl;
  one_item_refused = refl;
  by_position = refl;
  wrong_position = refl;
  shorter_than_the_list = refl;
  the_rest = refl;
  the_rest_refused = refl;
  no_rest_without_a_list = refl;
  no_rest_beside_one_schema = refl;
  few_enough = refl;
  too_many = refl;
  enough = refl;
  too_few = refl;
  one_and_true_differ = refl;
  twice = refl;
  twice_allowed = refl;
  one_is_enough = refl;
  none_contained = refl;
  nothing_contained = refl;
  texts_have_no_items = refl;
}
