use Rattle.std.proofs.Common.{refl}
use Rattle.schema_defs.specs.Read.{document_of, definitions_of, schema_of, plain_of, numbers_of, texts_of, same_of, lists_of, named_of}
use Rattle.schema_defs.proofs.examples.reference_examples.Goals as goal

pub returns : goal.returns
unfolding document_of definitions_of schema_of plain_of numbers_of texts_of same_of lists_of named_of
returns c = record {
  by_definitions = refl;
  by_definitions_refused = refl;
  by_defs = refl;
  by_defs_refused = refl;
  one_name_space = refl;
  slash = refl;
  tilde = refl;
  one_pass = refl;
  percent_is_itself = refl;
  no_target = refl;
  siblings_count = refl;
  siblings_alone_do_not = refl;
  two_in_a_row = refl;
  two_in_a_row_refused = refl;
  under_another_keyword = refl;
  definitions_below_the_root = refl;
  chain_of_one = refl;
  chain_of_three = refl;
  broken_chain = refl;
  root_as_target = refl;
  root_as_target_refused = refl;
  endless_takes_none = refl;
}
