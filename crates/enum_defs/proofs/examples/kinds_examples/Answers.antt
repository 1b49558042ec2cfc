use Rattle.std.proofs.Common.{refl}
use Rattle.schema_defs.specs.Read.{document_of, definitions_of, schema_of, plain_of, numbers_of, texts_of, same_of, lists_of, named_of}
use Rattle.enum_defs.proofs.examples.kinds_examples.Goals as goal

pub returns : goal.returns
unfolding document_of definitions_of schema_of plain_of numbers_of texts_of same_of lists_of named_of
returns c = record {
  true_schema = refl;
  false_schema = refl;
  nothing_said = refl;
  by_type = refl;
  whole_numbers = refl;
  by_types = refl;
  by_no_types = refl;
  by_list = refl;
  by_an_empty_list = refl;
  by_constant = refl;
  type_and_list = refl;
  type_and_another_constant = refl;
  all_of = refl;
  all_of_true = refl;
  any_of = refl;
  one_of = refl;
  any_and_one_of = refl;
  negation_says_nothing = refl;
  by_a_reference = refl;
  beside_a_reference = refl;
  two_references = refl;
  no_target = refl;
}
