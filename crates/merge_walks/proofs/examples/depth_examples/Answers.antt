use Rattle.std.proofs.Common.{refl}
use Rattle.schema_defs.specs.Location.{place}
use Rattle.schema_defs.specs.Read.{document_of, definitions_of, schema_of, plain_of, numbers_of, texts_of, same_of, lists_of, named_of}
use Rattle.merge_walks.proofs.examples.depth_examples.Goals as goal

pub returns : goal.returns
unfolding place document_of definitions_of schema_of plain_of numbers_of texts_of same_of lists_of named_of
returns c = record {
  a_target_is_one_step_more = refl;
  a_cycle_ends = refl;
  a_shorter_cycle = refl;
  roughly_the_target = refl;
  roughly_too_deep = refl;
  a_member_is_met = refl;
  targets_go_on = refl;
  what_is_not_merged_is_not_met = refl;
  properties_of_both_are_met = refl;
  what_is_left_of_a_reference_leads_on = refl;
}
