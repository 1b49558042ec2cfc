use Rattle.std.proofs.Common.{refl}
use Rattle.schema_defs.specs.Read.{document_of, definitions_of, schema_of, plain_of, numbers_of, texts_of, same_of, lists_of, named_of}
use Rattle.enum_defs.proofs.examples.option_examples.Goals as goal

pub returns : goal.returns
unfolding document_of definitions_of schema_of plain_of numbers_of texts_of same_of lists_of named_of
returns c = record {
  null_and_text = refl;
  text_and_null = refl;
  two_nulls_and_text = refl;
  nulls_listed = refl;
  empty_list_is_null = refl;
  empty_types_are_null = refl;
  types_of_null = refl;
  type_before_constant = refl;
  constant_before_list = refl;
  beside_other_keywords = refl;
  false_is_no_null = refl;
  one_schema = refl;
  one_null = refl;
  none = refl;
  nulls_alone = refl;
  two_others = refl;
  types_with_another = refl;
  list_with_another = refl;
  constant_beside_nulls = refl;
  by_a_reference = refl;
  by_all_of = refl;
}
