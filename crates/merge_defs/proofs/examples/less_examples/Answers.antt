use Rattle.std.proofs.Common.{refl}
use Rattle.schema_defs.specs.Read.{document_of, definitions_of, schema_of, plain_of, numbers_of, texts_of, same_of, lists_of, named_of}
use Rattle.merge_defs.proofs.examples.less_examples.Goals as goal

pub returns : goal.returns
unfolding document_of definitions_of schema_of plain_of numbers_of texts_of same_of lists_of named_of
returns c = record {
  values = refl;
  all_values = refl;
  values_beside_a_type = refl;
  a_required_name = refl;
  a_name_that_is_required = refl;
  two_required_names = refl;
  properties = refl;
  other_kinds = refl;
  the_same_kind = refl;
  two_members = refl;
  not_not = refl;
  one_of_is_kept = refl;
  the_merge_of_all = refl;
  notes_are_turned = refl;
  conditionals_are_no_less = refl;
  nothing_from_true = refl;
  nothing_by_two = refl;
}
