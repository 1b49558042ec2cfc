use Rattle.std.proofs.Common.{refl}
use Rattle.schema_defs.specs.Read.{document_of, definitions_of, schema_of, plain_of, numbers_of, texts_of, same_of, lists_of, named_of}
use Rattle.merge_defs.proofs.examples.subschema_examples.Goals as goal

pub returns : goal.returns
unfolding document_of definitions_of schema_of plain_of numbers_of texts_of same_of lists_of named_of
returns c = record {
  a_reference_stays = refl;
  equal_references = refl;
  siblings_are_dropped = refl;
  a_reference_and_more = refl;
  a_reference_to_a_list = refl;
  a_target_comes_first = refl;
  sizes_are_lost = refl;
  any_in_turn = refl;
  two_are_joined = refl;
  each_as_the_body = refl;
  members_are_kept = refl;
  the_body_twice = refl;
  sizes_narrow_one = refl;
  one_is_forgotten = refl;
  none_is_forgotten_under_any = refl;
  exclusive_are_joined = refl;
  none_is_left = refl;
  all_in_turn = refl;
  a_body_with_not_false = refl;
  a_body_with_any = refl;
  not_false = refl;
  true_reads_nothing = refl;
  conditionals_are_refused = refl;
  any_beside_one = refl;
  any_one_before_types = refl;
  conditionals_before_types = refl;
  false_before_unsupported = refl;
  steps_are_spent = refl;
  steps_are_enough = refl;
}
