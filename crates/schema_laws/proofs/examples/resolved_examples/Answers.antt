use Rattle.std.proofs.Common.{refl}
use Rattle.schema_defs.specs.Location.{place}
use Rattle.schema_defs.specs.Read.{numbers_of, texts_of, plain_of, same_of, lists_of, named_of, schema_of, definitions_of, document_of}
use Rattle.schema_laws.proofs.examples.resolved_examples.Goals as goal

pub returns : goal.returns
unfolding place document_of definitions_of schema_of plain_of numbers_of texts_of same_of lists_of named_of
returns c = record {
  all = refl;
  none_is_bad = refl;
  in_a_definition = refl;
  of_a_property = refl;
  to_the_root = refl;
  to_the_definition = refl;
  one_is_bad = refl;
  it_is_read = refl;
  it_has_no_target = refl;
}
