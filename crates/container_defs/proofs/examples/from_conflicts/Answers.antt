use Rattle.std.proofs.Common.{refl}
use Rattle.std.specs.Str.{chars}
use Rattle.syntax_parsers.specs.Grammar.{ty_body, path_ty, path_body, segments_body, segment_body, arguments_body}
use Rattle.syntax_parsers.specs.Read.{levels}
use Rattle.syntax_parsers.specs.Whole.{type_of}
use Rattle.container_defs.proofs.examples.from_conflicts.Goals as goal

pub returns : goal.returns
unfolding type_of levels chars ty_body path_ty path_body segments_body segment_body arguments_body
returns c = record {
  both = refl;
  from_alone = refl;
  try_from_alone = refl;
}
