use Rattle.std.proofs.Common.{refl}
use Rattle.std.specs.Str.{chars}
use Rattle.syntax_parsers.specs.Grammar.{ty_body, path_ty, path_body, segments_body, segment_body, arguments_body}
use Rattle.syntax_parsers.specs.Read.{levels}
use Rattle.syntax_parsers.specs.Whole.{type_of}
use Rattle.type_spellings.specs.Types.{word_type, plain_path}
use Rattle.container_defs.proofs.examples.forms_of_rules.Goals as goal

pub returns : goal.returns
unfolding type_of levels chars ty_body path_ty path_body segments_body segment_body arguments_body word_type plain_path
returns c = record {
  fits = refl;
  other_type = refl;
  no_constraint = refl;
  two_constraints = refl;
  on_names = refl;
  text = refl;
  no_text = refl;
}
