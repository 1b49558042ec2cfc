use Rattle.std.proofs.Common.{refl}
use Rattle.schema_defs.specs.Read.{document_of, definitions_of, schema_of, plain_of, numbers_of, texts_of, same_of, lists_of, named_of}
use Rattle.schema_defs.proofs.examples.guarded_examples.Goals as goal

pub returns : goal.returns
unfolding document_of definitions_of schema_of plain_of numbers_of texts_of same_of lists_of named_of
returns c = record {
  no_references = refl;
  by_a_smaller_value = refl;
  root_by_its_items = refl;
  root_by_itself = refl;
  root_under_not = refl;
  under_two_keywords = refl;
  two_definitions = refl;
  unused_definition = refl;
  back_by_a_property = refl;
  longest_walk = refl;
  no_target = refl;
}
