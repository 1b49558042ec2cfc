use Rattle.std.proofs.Common.{refl}
use Rattle.std.specs.Str.{chars}
use Rattle.schema_defs.specs.Location.{place}
use Rattle.schema_defs.specs.Formats.{is_uuid, is_ipv4}
use Rattle.schema_defs.specs.Read.{document_of, definitions_of, schema_of, plain_of, numbers_of, texts_of, same_of, lists_of, named_of}
use Rattle.convert_defs.proofs.examples.stage_pages.Goals as goal

pub returns : goal.returns
unfolding chars document_of definitions_of schema_of plain_of numbers_of texts_of same_of lists_of named_of place is_uuid is_ipv4
returns c = record {
  anything = refl;
  anything_of_a_list = refl;
  a_set = refl;
  no_members = refl;
  an_optional_text = refl;
  a_rest = refl;
  a_required_option = refl;
  a_pair = refl;
  unsigned = refl;
  nonzero = refl;
  by_the_greatest = refl;
  external = refl;
  an_open_branch = refl;
  overlapping = refl;
  internal = refl;
}
