use Rattle.std.proofs.Common.{refl}
use Rattle.schema_defs.specs.Location.{place}
use Rattle.schema_defs.specs.Read.{document_of, definitions_of, schema_of, plain_of, numbers_of, texts_of, same_of, lists_of, named_of}
use Rattle.depth_laws.proofs.laws.worked_walks.Goals as goal

pub returns : goal.returns
unfolding place document_of definitions_of schema_of plain_of numbers_of texts_of same_of lists_of named_of
returns c = record {
  of_the_subtraction = refl;
  by_the_property = refl;
  at_the_node_count = refl;
  two_deeper = refl;
  of_no_type = refl;
  of_names = refl;
}
