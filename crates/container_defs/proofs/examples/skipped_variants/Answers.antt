use Rattle.std.proofs.Common.{refl}
use Rattle.std.specs.Fmt.{digits}
use Rattle.std.specs.Str.{chars}
use Rattle.syntax_parsers.specs.Grammar.{expr_path_body, path_body, segments_body, segment_body, arguments_body}
use Rattle.syntax_parsers.specs.Read.{levels}
use Rattle.syntax_parsers.specs.Whole.{expr_path_of}
use Rattle.container_defs.proofs.examples.skipped_variants.Goals as goal

pub returns : goal.returns
unfolding expr_path_of levels chars expr_path_body path_body segments_body segment_body arguments_body digits
returns c = record {
  written = refl;
  read = refl;
  field_written = refl;
  field_written_if = refl;
  field_read = refl;
  by_number = refl;
  other_way = refl;
  no_function = refl;
}
