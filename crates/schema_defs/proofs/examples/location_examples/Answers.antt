use Rattle.std.proofs.Common.{refl}
use Rattle.schema_defs.specs.Location.{place}
use Rattle.schema_defs.specs.Read.{document_of, definitions_of, schema_of, plain_of, numbers_of, texts_of, same_of, lists_of, named_of}
use Rattle.schema_defs.proofs.examples.location_examples.Goals as goal

pub returns : goal.returns
unfolding place document_of definitions_of schema_of plain_of numbers_of texts_of same_of lists_of named_of
returns c = record {
  root_text = refl;
  text = refl;
  escaped_text = refl;
  other_tildes_stay = refl;
  definition = refl;
  by_the_keyword_where_it_stands = refl;
  place_in_a_list = refl;
  place_past_the_list = refl;
  list_is_no_schema = refl;
  property = refl;
  target_of_a_reference = refl;
  target_of_the_root = refl;
  no_target = refl;
  nodes = refl;
  constraints = refl;
  annotations_are_none = refl;
  empty_names_count = refl;
}
