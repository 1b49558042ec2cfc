use Rattle.std.proofs.Common.{refl}
use Rattle.std.specs.Str.{chars}
use Rattle.syntax_parsers.specs.Grammar.{path_body, segments_body, segment_body, arguments_body, generics_body, generic_body, ty_body, path_ty}
use Rattle.syntax_parsers.specs.Read.{levels}
use Rattle.syntax_parsers.specs.Whole.{path_of}
use Rattle.container_defs.proofs.examples.remote_arguments.Goals as goal

pub returns : goal.returns
unfolding path_of path_body chars levels segments_body segment_body arguments_body generics_body generic_body ty_body path_ty
returns c = record {
  both = refl;
  no_parameter = refl;
  no_argument = refl;
  one_argument = refl;
  inside = refl;
}
