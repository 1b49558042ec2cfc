use Rattle.std.proofs.Common.{refl}
use Rattle.std.specs.Fmt.{digits}
use Rattle.std.specs.Str.{chars}
use Rattle.syntax_parsers.specs.Grammar.{path_body, segments_body, segment_body, arguments_body, ty_body, path_ty}
use Rattle.syntax_parsers.specs.Read.{levels}
use Rattle.syntax_parsers.specs.Where.{some_predicates, predicates_body}
use Rattle.syntax_parsers.specs.Whole.{path_of, type_of, predicates_of}
use Rattle.type_spellings.specs.Types.{word_type}
use Rattle.container_defs.proofs.examples.forms_of_items.Goals as goal

pub returns : goal.returns
unfolding word_type path_of path_body chars levels segments_body segment_body arguments_body type_of ty_body path_ty predicates_of some_predicates predicates_body digits
returns c = record {
  plain_struct = refl;
  a_union = refl;
  with_parameters = refl;
  remote = refl;
  from = refl;
  into = refl;
  bound = refl;
  container_default = refl;
  tag_on_a_struct = refl;
  identifier = refl;
  clear_with_names = refl;
  clear = refl;
  named_twice = refl;
  a_tuple = refl;
  a_unit = refl;
  no_variants = refl;
}
