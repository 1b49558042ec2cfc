use Rattle.std.proofs.Common.{refl}
use Rattle.schema_defs.specs.Read.{document_of, definitions_of, schema_of, plain_of, numbers_of, texts_of, same_of, lists_of, named_of}
use Rattle.schema_defs.proofs.examples.same_value_examples.Goals as goal

pub returns : goal.returns
unfolding document_of definitions_of schema_of plain_of numbers_of texts_of same_of lists_of named_of
returns c = record {
  all = refl;
  not_all = refl;
  any = refl;
  several_of_any = refl;
  none_of_any = refl;
  empty_any = refl;
  exactly_one = refl;
  two_of_one = refl;
  none_of_one = refl;
  empty_one = refl;
  not_it = refl;
  it = refl;
  beside_other_keywords = refl;
  conditions_say_nothing = refl;
}
