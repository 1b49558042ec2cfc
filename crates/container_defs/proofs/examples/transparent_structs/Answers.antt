use Rattle.std.proofs.Common.{refl}
use Rattle.std.specs.Str.{chars}
use Rattle.syntax_parsers.specs.Grammar.{ty_body, path_ty, path_body, segments_body, segment_body, arguments_body}
use Rattle.syntax_parsers.specs.Read.{levels}
use Rattle.syntax_parsers.specs.Whole.{type_of}
use Rattle.container_defs.proofs.examples.transparent_structs.Goals as goal

pub returns : goal.returns
unfolding type_of levels chars ty_body path_ty path_body segments_body segment_body arguments_body
returns c = record {
  one = refl;
  is_marked = refl;
  with_from = refl;
  with_try_from = refl;
  with_into = refl;
  is_marked_yet = refl;
  on_an_enum = refl;
  on_a_unit = refl;
  two = refl;
  two_marks = refl;
  none_read = refl;
  none_written = refl;
  never_written = refl;
  default_read = refl;
  default_written = refl;
  phantoms = refl;
  phantom_marks = refl;
  phantom_alone = refl;
  no_fields = refl;
  not_asked = refl;
}
