use Rattle.std.proofs.Common.{refl}
use Rattle.schema_defs.specs.Read.{document_of, definitions_of, schema_of, plain_of, numbers_of, texts_of, same_of, lists_of, named_of}
use Rattle.schema_defs.proofs.examples.value_examples.Goals as goal

pub returns : goal.returns
unfolding document_of definitions_of schema_of plain_of numbers_of texts_of same_of lists_of named_of
returns c = record {
  listed = refl;
  not_listed = refl;
  one_is_not_true = refl;
  nothing_listed = refl;
  constant = refl;
  other_order = refl;
  null_constant_stands = refl;
  both_have_to_agree = refl;
  annotations_say_nothing = refl;
  unknown_members_say_nothing = refl;
}
