use Rattle.std.proofs.Common.{refl}
use Rattle.schema_defs.specs.Read.{document_of, definitions_of, schema_of, plain_of, numbers_of, texts_of, same_of, lists_of, named_of}
use Rattle.merge_defs.proofs.examples.list_examples.Goals as goal

pub returns : goal.returns
unfolding document_of definitions_of schema_of plain_of numbers_of texts_of same_of lists_of named_of
returns c = record {
  cut_to_three = refl;
  cut_where_two_clash = refl;
  the_first_clash = refl;
  cut_after_what_must_stand = refl;
  a_clash_of_arrays = refl;
  the_empty_list_stays = refl;
  each_with_each = refl;
  each_with_each_of_arrays = refl;
  each_with_places = refl;
  the_list_comes_first = refl;
  a_rest_that_clashes = refl;
  rests_that_clash = refl;
  the_last_keyword_of_lists = refl;
  sizes_that_cross = refl;
  contains_that_differ = refl;
}
