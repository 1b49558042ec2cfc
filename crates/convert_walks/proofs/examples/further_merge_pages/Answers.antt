use Rattle.std.proofs.Common.{refl}
use Rattle.std.specs.Str.{chars}
use Rattle.schema_defs.specs.Location.{place}
use Rattle.schema_defs.specs.Read.{document_of, definitions_of, schema_of, plain_of, numbers_of, texts_of, same_of, lists_of, named_of}
use Rattle.convert_walks.proofs.examples.further_merge_pages.Goals as goal

pub returns : goal.returns
unfolding chars place document_of definitions_of schema_of plain_of numbers_of texts_of same_of lists_of named_of
returns c = record {
  required_false_with_type = refl;
  property_beside_additional = refl;
  one_item_never = refl;
  list_cut_by_never = refl;
  not_with_required = refl;
  not_with_two_required = refl;
  not_of_a_reference_that_meets = refl;
  anyof_with_a_body = refl;
  anyof_answered_as_body = refl;
  left_subschemas_first = refl;
  enum_with_const = refl;
  multiples_past_u64 = refl;
  depth_through_c16 = refl;
  depth_of_two_references = refl;
  depth_ends_a_cycle = refl;
}
