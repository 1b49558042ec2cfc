use Rattle.std.proofs.Common.{refl}
use Rattle.std.specs.Str.{chars}
use Rattle.schema_defs.specs.Location.{place}
use Rattle.schema_defs.specs.Read.{document_of, definitions_of, schema_of, plain_of, numbers_of, texts_of, same_of, lists_of, named_of}
use Rattle.convert_walks.proofs.examples.merge_pages.Goals as goal

pub returns : goal.returns
unfolding chars place document_of definitions_of schema_of plain_of numbers_of texts_of same_of lists_of named_of
returns c = record {
  row_same_type_list_at_reference = refl;
  external_content_by_a_merge = refl;
  path_of_a_property_taken_over = refl;
  path_of_a_property_of_both = refl;
  types_before_formats = refl;
  types_before_unsupported = refl;
  names_before_types = refl;
  false_with_unsupported = refl;
  true_with_a_default = refl;
  of_both_drops_a_default = refl;
  roughly_the_target = refl;
  array_keywords_of_one_side = refl;
  siblings_of_a_reference = refl;
  equal_references_with_siblings = refl;
  required_false = refl;
}
