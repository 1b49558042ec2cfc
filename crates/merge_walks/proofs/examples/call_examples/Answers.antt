use Rattle.std.proofs.Common.{refl}
use Rattle.schema_defs.specs.Location.{place}
use Rattle.schema_defs.specs.Read.{document_of, definitions_of, schema_of, plain_of, numbers_of, texts_of, same_of, lists_of, named_of}
use Rattle.merge_walks.proofs.examples.call_examples.Goals as goal

pub returns : goal.returns
unfolding place document_of definitions_of schema_of plain_of numbers_of texts_of same_of lists_of named_of
returns c = record {
  notes_stand_at_the_first = refl;
  unsupported_stands_at_the_first = refl;
  one_is_answered_as_it_is = refl;
  depth_has_its_walk = refl;
}
