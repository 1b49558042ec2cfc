use Rattle.std.proofs.Common.{refl}
use Rattle.std.specs.Str.{chars}
use Rattle.syntax_parsers.specs.Grammar.{expr_path_body, path_body, segments_body, segment_body, arguments_body}
use Rattle.syntax_parsers.specs.Read.{levels}
use Rattle.syntax_parsers.specs.Whole.{expr_path_of, path_of}
use Rattle.container_defs.proofs.examples.getters.Goals as goal

pub returns : goal.returns
unfolding expr_path_of levels chars expr_path_body path_body segments_body segment_body arguments_body path_of
returns c = record {
  in_an_enum = refl;
  alone = refl;
  for_a_remote = refl;
  none = refl;
}
