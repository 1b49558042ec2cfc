use Rattle.std.proofs.Common.{refl}
use Rattle.std.specs.Char.{encode_utf8}
use Rattle.std.specs.Str.{chars}
use Rattle.plain_patterns.specs.Plain.{members, piece, property}
use Rattle.plain_patterns.specs.Ends.{looks, read_from, rewritten}
use Rattle.plain_patterns.specs.Properties.{binary_names, categories}
use Rattle.plain_patterns.proofs.examples.other_examples.Goals as goal

pub returns : goal.returns
unfolding binary_names categories chars encode_utf8 looks members piece property read_from rewritten
returns c = record {
  lone_star = refl;
  star_after_bar = refl;
  star_in_group = refl;
  twice = refl;
  possessive = refl;
  start_repeated = refl;
  end_repeated = refl;
  look_ahead = refl;
  open_group = refl;
  closed_group = refl;
  open_class = refl;
  range_down = refl;
  counts_down = refl;
  back_reference = refl;
  property = refl;
  backslash = refl;
  lazy_twice = refl;
  brace_alone = refl;
  count_past = refl;
  most_past = refl;
  counts_twice = refl;
  boundary_repeated = refl;
  look_behind = refl;
  name = refl;
  flags = refl;
  half_of_pair = refl;
  trail_alone = refl;
  lead_before_letter = refl;
  lead_before_code = refl;
  half_in_class = refl;
  one_digit = refl;
  three_digits = refl;
  bracket_in_unicode_mode = refl;
  set_in_range_in_unicode_mode = refl;
  hyphen_escaped_in_unicode_mode = refl;
  code_too_large = refl;
  half_in_braces = refl;
  octal = refl;
  control_digit = refl;
  start_of_text = refl;
  letter_in_class = refl;
  range_down_to_hyphen = refl;
}
