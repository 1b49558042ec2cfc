use Rattle.std.proofs.Common.{refl}
use Rattle.std.specs.Char.{encode_utf8}
use Rattle.std.specs.Str.{chars}
use Rattle.plain_patterns.specs.Plain.{members, piece, property}
use Rattle.plain_patterns.specs.Ends.{looks, read_from, rewritten}
use Rattle.plain_patterns.specs.Properties.{binary_names, categories, script_codes, script_names}
use Rattle.plain_patterns.proofs.examples.other_property_examples.Goals as goal

pub returns : goal.returns
unfolding binary_names categories chars encode_utf8 looks members piece property read_from rewritten script_codes script_names
returns c = record {
  surrogates = refl;
  long_surrogates = refl;
  nothing = refl;
  no_value = refl;
  no_property = refl;
  other_case = refl;
  lower_case = refl;
  script_alone = refl;
  prefix = refl;
  block = refl;
  no_underscore = refl;
  blank = refl;
  category_of_a_script = refl;
  script_of_a_category = refl;
  binary_value = refl;
  property_alone = refl;
  loose_property = refl;
  two_values = refl;
  colon = refl;
  unequal = refl;
  caret = refl;
  regex_alone = refl;
  ecma_alone = refl;
  unknown_script = refl;
  third_space = refl;
  any_value = refl;
  open_name = refl;
  open_value = refl;
  bare_letter = refl;
  range_to_script = refl;
  other_mode = refl;
}
