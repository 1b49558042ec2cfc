use Rattle.std.proofs.Common.{refl}
use Rattle.schema_defs.specs.Read.{schema_of, plain_of, numbers_of, texts_of, same_of, lists_of, named_of}
use Rattle.merge_walks.proofs.examples.alike_examples.Goals as goal

pub returns : goal.returns
unfolding schema_of plain_of numbers_of texts_of same_of lists_of named_of
returns c = record {
  equal_booleans = refl;
  other_booleans = refl;
  true_and_no_constraint = refl;
  no_constraint_and_true = refl;
  true_and_a_constraint = refl;
  false_and_an_object = refl;
  annotations_aside = refl;
  walks_aside = refl;
  other_types = refl;
  lists_by_items_alone = refl;
  lists_on_one_side = refl;
  other_items = refl;
  items_by_place = refl;
  items_by_length = refl;
  properties_by_name = refl;
  other_names = refl;
  other_required_names = refl;
  members_by_place = refl;
  members_in_order = refl;
  one_reference = refl;
  other_spelling = refl;
}
