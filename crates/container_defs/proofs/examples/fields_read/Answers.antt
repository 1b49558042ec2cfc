use Rattle.std.proofs.Common.{refl}
use Rattle.std.specs.Fmt.{digits}
use Rattle.std.specs.Str.{chars}
use Rattle.syntax_parsers.specs.Grammar.{expr_path_body, path_body, segments_body, segment_body, arguments_body}
use Rattle.syntax_parsers.specs.Read.{levels}
use Rattle.syntax_parsers.specs.Whole.{expr_path_of}
use Rattle.schema_defs.specs.Location.{place}
use Rattle.type_spellings.specs.Types.{word_type, path_of_one, path_of_two, plain_path}
use Rattle.container_defs.proofs.examples.fields_read.Goals as goal

pub returns : goal.returns
unfolding place word_type expr_path_of levels chars expr_path_body path_body segments_body segment_body arguments_body digits path_of_one path_of_two plain_path
returns c = record {
  required_field = refl;
  renamed = refl;
  with_alias = refl;
  stated = refl;
  first_stated = refl;
  no_place = refl;
  other_path = refl;
  defaulted = refl;
  whole = refl;
  optional = refl;
  rest = refl;
  of_an_item = refl;
}
