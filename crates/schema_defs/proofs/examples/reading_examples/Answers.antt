use Rattle.std.proofs.Common.{refl}
use Rattle.schema_defs.specs.Read.{document_of, definitions_of, schema_of, plain_of, numbers_of, texts_of, same_of, lists_of, named_of}
use Rattle.schema_defs.proofs.examples.reading_examples.Goals as goal

pub returns : goal.returns
unfolding document_of definitions_of schema_of plain_of numbers_of texts_of same_of lists_of named_of
returns c = record {
  booleans = refl;
  empty = refl;
  unknown_members = refl;
  annotations = refl;
  one_name = refl;
  names = refl;
  bounds = refl;
  pattern = refl;
  not = refl;
  conditional = refl;
  required_names_rise = refl;
  properties = refl;
  definitions = refl;
  number_is_read = refl;
  empty_lists = refl;
  any_condition = refl;
  greatest_size = refl;
  no_definitions_below = refl;
  references_of_any_form = refl;
}
