use Rattle.schema_defs.specs.Read.{document_of, definitions_of, schema_of, plain_of, numbers_of, texts_of, same_of, lists_of, named_of}
use Rattle.schema_defs.specs.Formats.{is_uuid}
use Rattle.schema_defs.specs.Location.{place}
use Rattle.std.specs.Str.{chars}
use Rattle.std.proofs.Common.{refl}
use Rattle.convert_defs.proofs.examples.shared_entries.Goals as goal

pub returns : goal.returns
unfolding chars document_of definitions_of schema_of plain_of numbers_of texts_of same_of lists_of named_of place is_uuid
returns c = record {
  members = refl;
  items_of_members = refl;
  never = refl;
  items_of_never = refl;
  places = refl;
  items_of_places = refl;
}
