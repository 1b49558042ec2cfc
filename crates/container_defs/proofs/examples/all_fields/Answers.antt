use Rattle.std.proofs.Common.{refl}
use Rattle.std.specs.Str.{chars}
use Rattle.syntax_parsers.specs.Grammar.{expr_path_body, path_body, segments_body, segment_body, arguments_body}
use Rattle.syntax_parsers.specs.Read.{levels}
use Rattle.syntax_parsers.specs.Whole.{expr_path_of}
use Rattle.container_defs.proofs.examples.all_fields.Goals as goal

pub returns : goal.returns
unfolding expr_path_of levels chars expr_path_body path_body segments_body segment_body arguments_body
returns c = record {
  variants_in_order = refl;
  one_getter = refl;
  no_getter = refl;
  in_a_variant = refl;
}
