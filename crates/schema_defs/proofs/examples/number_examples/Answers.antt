use Rattle.std.proofs.Common.{refl}
use Rattle.schema_defs.specs.Read.{document_of, definitions_of, schema_of, plain_of, numbers_of, texts_of, same_of, lists_of, named_of}
use Rattle.schema_defs.proofs.examples.number_examples.Goals as goal

pub returns : goal.returns
unfolding document_of definitions_of schema_of plain_of numbers_of texts_of same_of lists_of named_of
returns c = record {
  at_maximum = refl;
  above_maximum = refl;
  below_exclusive_maximum = refl;
  at_exclusive_maximum = refl;
  at_minimum = refl;
  below_minimum = refl;
  above_exclusive_minimum = refl;
  at_exclusive_minimum = refl;
  multiple = refl;
  no_multiple = refl;
  texts_have_no_bounds = refl;
  fractions_are_numbers = refl;
  fractions_are_no_integers = refl;
  least_int8 = refl;
  below_int8 = refl;
  above_uint8 = refl;
  below_uint16 = refl;
  greatest_int16 = refl;
  int_is_int32 = refl;
  above_int32 = refl;
  greatest_uint32 = refl;
  uint_is_uint32 = refl;
  least_int64 = refl;
  greatest_uint64 = refl;
  above_int64 = refl;
  other_formats_say_nothing = refl;
  text_formats_say_nothing = refl;
}
