use Rattle.std.proofs.Common.{refl}
use Rattle.std.specs.Str.{chars}
use Rattle.schema_defs.specs.Location.{place}
use Rattle.schema_defs.specs.Formats.{is_uuid}
use Rattle.schema_defs.specs.Read.{document_of, definitions_of, schema_of, plain_of, numbers_of, texts_of, same_of, lists_of, named_of}
use Rattle.convert_defs.proofs.examples.worked_verdicts.Goals as goal

pub returns : goal.returns
unfolding chars document_of definitions_of schema_of plain_of numbers_of texts_of same_of lists_of named_of place is_uuid
returns c = record {
  by_patterns = refl;
  constant_text = refl;
  unlisted_constant = refl;
  tag_alone = refl;
  closed_object_schema = refl;
  true_schema = refl;
  set_schema = refl;
  no_members_schema = refl;
  optional_text_schema = refl;
  rest_schema = refl;
  nullable_schema = refl;
  pair_schema = refl;
  word_schema = refl;
  nonzero_schema = refl;
  greatest_schema = refl;
  ruled_text_schema = refl;
  external_schema = refl;
  open_external_schema = refl;
  adjacent_schema = refl;
  internal_schema = refl;
  branches_schema = refl;
  recursive_schema = refl;
  renamed_schema = refl;
  config_schema = refl;
  null_for_absent = refl;
  null_alone_schema = refl;
  never_schema = refl;
  stated_default_schema = refl;
  constant_schema = refl;
}
