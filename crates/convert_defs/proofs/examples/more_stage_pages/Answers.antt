use Rattle.std.proofs.Common.{refl}
use Rattle.std.specs.Str.{chars}
use Rattle.schema_defs.specs.Location.{place}
use Rattle.schema_defs.specs.Formats.{is_uuid, is_ipv4}
use Rattle.schema_defs.specs.Read.{document_of, definitions_of, schema_of, plain_of, numbers_of, texts_of, same_of, lists_of, named_of}
use Rattle.convert_defs.proofs.examples.more_stage_pages.Goals as goal

pub returns : goal.returns
unfolding chars document_of definitions_of schema_of plain_of numbers_of texts_of same_of lists_of named_of place is_uuid is_ipv4
returns c = record {
  untagged = refl;
  round_again = refl;
  named = refl;
  whole = refl;
  many_places = refl;
  a_bad_value = refl;
  contains_one = refl;
  nothing_but_null = refl;
  no_member = refl;
  the_first_property_first = refl;
  null_is_absent = refl;
  a_constant_text = refl;
  a_constant_number = refl;
  required_outside_properties = refl;
  a_rest_of_places = refl;
  definitions_deeper_are_ignored = refl;
}
