use Rattle.std.proofs.Common.{refl}
use Rattle.std.specs.Fmt.{digits}
use Rattle.std.specs.Str.{chars}
use Rattle.syntax_parsers.specs.Grammar.{ty_body, path_ty, path_body, segments_body, segment_body, arguments_body}
use Rattle.syntax_parsers.specs.Read.{levels}
use Rattle.syntax_parsers.specs.Whole.{type_of}
use Rattle.type_spellings.specs.Types.{word_type}
use Rattle.container_defs.proofs.examples.containers_read.Goals as goal

pub returns : goal.returns
unfolding digits word_type type_of levels chars ty_body path_ty path_body segments_body segment_body arguments_body
returns c = record {
  closed = refl;
  newtype = refl;
  clear = refl;
  converted = refl;
  without_fields = refl;
  no_union = refl;
  by_rule = refl;
}
