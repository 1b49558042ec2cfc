use Rattle.std.proofs.Common.{refl}
use Rattle.std.specs.Str.{chars}
use Rattle.syntax_parsers.specs.Grammar.{expr_path_body, path_body, segments_body, segment_body, arguments_body}
use Rattle.syntax_parsers.specs.Read.{levels}
use Rattle.syntax_parsers.specs.Whole.{expr_path_of}
use Rattle.type_spellings.specs.Types.{path_of_two, plain_path, word_type}
use Rattle.container_defs.proofs.examples.forms_of_rests.Goals as goal

pub returns : goal.returns
unfolding path_of_two plain_path word_type expr_path_of levels chars expr_path_body path_body segments_body segment_body arguments_body
returns c = record {
  a_rest = refl;
  closed = refl;
  two = refl;
  no_map = refl;
  other_keys = refl;
  with_helper = refl;
  beside_one = refl;
  beside_unread = refl;
  unread_alone = refl;
  one_name_twice = refl;
}
