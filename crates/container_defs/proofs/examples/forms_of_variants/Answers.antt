use Rattle.std.proofs.Common.{refl}
use Rattle.std.specs.Str.{chars}
use Rattle.syntax_parsers.specs.Grammar.{expr_path_body, path_body, segments_body, segment_body, arguments_body}
use Rattle.syntax_parsers.specs.Read.{levels}
use Rattle.syntax_parsers.specs.Where.{some_predicates, predicates_body}
use Rattle.syntax_parsers.specs.Whole.{predicates_of, expr_path_of}
use Rattle.type_spellings.specs.Types.{word_type}
use Rattle.container_defs.proofs.examples.forms_of_variants.Goals as goal

pub returns : goal.returns
unfolding word_type predicates_of some_predicates chars predicates_body expr_path_of levels expr_path_body path_body segments_body segment_body arguments_body
returns c = record {
  plain_variant = refl;
  other = refl;
  untagged = refl;
  skip = refl;
  bound = refl;
  serialize_with = refl;
  deserialize_with = refl;
  with_module = refl;
  newtype_beside_tag = refl;
  struct_beside_tag = refl;
  newtype_beside_content = refl;
  same_names = refl;
  flattened = refl;
}
