use Rattle.std.proofs.Common.{refl}
use Rattle.std.specs.Fmt.{digits}
use Rattle.std.specs.Str.{chars}
use Rattle.syntax_parsers.specs.Grammar.{expr_path_body, path_body, segments_body, segment_body, arguments_body}
use Rattle.syntax_parsers.specs.Read.{levels}
use Rattle.syntax_parsers.specs.Where.{some_predicates, predicates_body}
use Rattle.syntax_parsers.specs.Whole.{expr_path_of, predicates_of}
use Rattle.schema_defs.specs.Location.{place}
use Rattle.type_spellings.specs.Types.{word_type, path_of_one, path_of_two, plain_path}
use Rattle.container_defs.proofs.examples.forms_of_fields.Goals as goal

pub returns : goal.returns
unfolding place expr_path_of levels chars expr_path_body path_body segments_body segment_body arguments_body predicates_of some_predicates predicates_body word_type path_of_one digits path_of_two plain_path
returns c = record {
  getter = refl;
  bound = refl;
  skip = refl;
  skip_serializing = refl;
  skip_deserializing = refl;
  with_module = refl;
  serialize_with = refl;
  deserialize_with = refl;
  whole = refl;
  some = refl;
  some_elsewhere = refl;
  whole_with_default = refl;
  stated = refl;
  not_in_the_table = refl;
  other_default = refl;
  option = refl;
  list_of = refl;
  map = refl;
  other_condition = refl;
  no_type_for_it = refl;
  default_alone = refl;
  condition_alone = refl;
  unknown_condition = refl;
  nameless_default = refl;
  nameless_whole = refl;
  an_item = refl;
  no_item = refl;
  inside = refl;
  a_unit = refl;
  no_type = refl;
}
