use Rattle.std.proofs.Common.{refl}
use Rattle.schema_defs.specs.Location.{place}
use Rattle.schema_defs.specs.Read.{document_of, definitions_of, schema_of, plain_of, numbers_of, texts_of, same_of, lists_of, named_of}
use Rattle.merge_walks.proofs.examples.walk_examples.Goals as goal

pub returns : goal.returns
unfolding place document_of definitions_of schema_of plain_of numbers_of texts_of same_of lists_of named_of
returns c = record {
  the_first_at_a_tie = (refl, refl);
  kept_from_the_left = (refl, refl);
  kept_from_the_right = (refl, refl);
  of_both = (refl, refl);
  the_longer = (refl, refl);
  shorter_inside_the_longer = (refl, refl);
  a_reference_keeps_its_own = (refl, refl);
  allOf_of_two = (refl, refl);
  a_joined_member = (refl, refl);
  a_negation = (refl, refl);
  a_subtraction = (refl, refl);
  a_subtraction_from_a_reference = (refl, refl);
}
