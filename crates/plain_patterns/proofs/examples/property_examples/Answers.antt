use Rattle.std.proofs.Common.{refl}
use Rattle.std.specs.Char.{encode_utf8}
use Rattle.std.specs.Str.{chars}
use Rattle.plain_patterns.specs.Plain.{members, piece, property}
use Rattle.plain_patterns.specs.Ends.{looks, read_from, rewritten}
use Rattle.plain_patterns.specs.Properties.{binary_names, categories, script_codes, script_names}
use Rattle.plain_patterns.proofs.examples.property_examples.Goals as goal

pub returns : goal.returns
unfolding binary_names categories chars encode_utf8 looks members piece property read_from rewritten script_codes script_names
returns c = record {
  categories = refl;
  long_category = refl;
  third_name = refl;
  category_value = refl;
  cased = refl;
  scripts = refl;
  extensions = refl;
  newest_script = refl;
  binary = refl;
  emoji = refl;
  every_character = refl;
  inside = refl;
}
