use Rattle.std.proofs.Common.{refl}
use Rattle.schema_defs.specs.Read.{document_of, definitions_of, schema_of, plain_of, numbers_of, texts_of, same_of, lists_of, named_of}
use Rattle.merge_defs.proofs.examples.member_examples.Goals as goal

pub returns : goal.returns
unfolding document_of definitions_of schema_of plain_of numbers_of texts_of same_of lists_of named_of
returns c = record {
  of_the_crate = refl;
  closed_by_the_other = refl;
  beside_the_rest = refl;
  a_clash_that_may_be_missing = refl;
  a_clash_that_is_required = refl;
  a_clash_of_objects = refl;
  a_required_name_is_shut_out = refl;
  a_required_name_of_objects = refl;
  counts_that_cross = refl;
  properties_before_counts = refl;
  all_properties_are_merged = refl;
  rests_that_clash = refl;
  patterns_are_dropped = refl;
  the_last_keyword_of_members = refl;
  patterns_stay_alone = refl;
  names_before_types = refl;
  names_that_are_named = refl;
  patterns_and_properties = refl;
}
