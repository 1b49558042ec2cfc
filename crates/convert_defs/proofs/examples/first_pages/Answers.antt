use Rattle.std.proofs.Common.{refl}
use Rattle.std.specs.Str.{chars}
use Rattle.schema_defs.specs.Location.{place}
use Rattle.schema_defs.specs.Formats.{is_uuid, is_ipv4}
use Rattle.schema_defs.specs.Read.{document_of, definitions_of, schema_of, plain_of, numbers_of, texts_of, same_of, lists_of, named_of}
use Rattle.convert_defs.proofs.examples.first_pages.Goals as goal

pub returns : goal.returns
unfolding chars document_of definitions_of schema_of plain_of numbers_of texts_of same_of lists_of named_of place is_uuid is_ipv4
returns c = record {
  row_option_before_reference = refl;
  row_c5b_before_c17 = refl;
  row_const_of_another_kind = refl;
  row_object_with_a_format = refl;
  row_type_list_with_enum = refl;
  row_one_subschema_with_type = refl;
  row_empty_properties_is_a_map = refl;
  row_unique_false = refl;
  row_set_of_fixed_size = refl;
  row_names_without_keyword = refl;
  row_names_false = refl;
  row_null_list_of_nulls = refl;
  row_empty_type_list = refl;
  row_option_enum_of_nothing = refl;
  option_any_of_two_nulls = refl;
  option_alone = refl;
  option_only_nulls = refl;
  option_null_with_a_second_keyword = refl;
  external_empty_enum = refl;
  external_repeated_text = refl;
  external_before_internal = refl;
}
