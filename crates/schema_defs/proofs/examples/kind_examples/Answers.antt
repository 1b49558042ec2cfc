use Rattle.std.proofs.Common.{refl}
use Rattle.schema_defs.specs.Read.{document_of, definitions_of, schema_of, plain_of, numbers_of, texts_of, same_of, lists_of, named_of}
use Rattle.schema_defs.proofs.examples.kind_examples.Goals as goal

pub returns : goal.returns
unfolding document_of definitions_of schema_of plain_of numbers_of texts_of same_of lists_of named_of
returns c = record {
  true_takes_all = refl;
  false_takes_none = refl;
  empty_takes_all = refl;
  null_taken = refl;
  null_is_not_false = refl;
  boolean_taken = refl;
  zero_is_not_false = refl;
  object_taken = refl;
  array_taken = refl;
  array_is_no_object = refl;
  object_is_no_array = refl;
  text_taken = refl;
  digits_are_no_integer = refl;
  integer_taken = refl;
  integer_is_a_number = refl;
  text_is_no_number = refl;
  one_of_the_types = refl;
  none_of_the_types = refl;
  no_types_take_none = refl;
}
