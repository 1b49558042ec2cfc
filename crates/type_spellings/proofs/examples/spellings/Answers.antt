use Rattle.std.proofs.Common.{refl}
use Rattle.type_spellings.specs.Types.{word_type, plain_path, path_of_one, path_of_two}
use Rattle.type_spellings.proofs.examples.spellings.Goals as goal

pub returns : goal.returns
unfolding word_type plain_path path_of_one path_of_two
returns c = record {
  a_word = refl;
  a_boolean = refl;
  an_item = refl;
  no_word_of_ours = refl;
  a_text = refl;
  from_one = refl;
  a_time = refl;
  a_time_elsewhere = refl;
  an_option = refl;
  an_option_of_an_option = refl;
  a_map = refl;
  a_map_of_one = refl;
  a_unit = refl;
  a_tuple = refl;
  an_array = refl;
  an_array_of_no_number = refl;
  a_reference = refl;
  an_option_of_two_roots = refl;
}
