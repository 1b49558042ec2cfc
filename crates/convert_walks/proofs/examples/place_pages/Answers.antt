use Rattle.std.proofs.Common.{refl}
use Rattle.std.specs.Str.{chars}
use Rattle.schema_defs.specs.Location.{place}
use Rattle.schema_defs.specs.Read.{document_of, definitions_of, schema_of, plain_of, numbers_of, texts_of, same_of, lists_of, named_of}
use Rattle.convert_walks.proofs.examples.place_pages.Goals as goal

pub returns : goal.returns
unfolding chars place document_of definitions_of schema_of plain_of numbers_of texts_of same_of lists_of named_of
returns c = record {
  k0 = refl;
  inside_a_member = refl;
  inside_a_body = refl;
  beside_true = refl;
  inside_a_property_of_both = refl;
  merge_in_a_property_taken_over = refl;
  merge_in_a_property_of_both = refl;
  branch_taken_over = refl;
  lone_member = refl;
  constant_beside_any_of = refl;
  beside_what_is_taken_away = refl;
  items_taken_over = refl;
  property_of_a_target = refl;
  refused_in_a_property_taken_over = refl;
  refused_in_a_property_of_both = refl;
  condition_taken_over = refl;
  target_false = refl;
  target_true = refl;
  one_reference_twice = refl;
  lists_without_sizes = refl;
  list_taken_over = refl;
  merge_in_a_definition = refl;
}
