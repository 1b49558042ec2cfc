use Rattle.std.proofs.Common.{refl}
use Rattle.std.specs.Char.{encode_utf8}
use Rattle.std.specs.Str.{chars}
use Rattle.plain_patterns.specs.Plain.{members, piece, property}
use Rattle.plain_patterns.specs.Ends.{looks, read_from, rewritten}
use Rattle.plain_patterns.specs.Properties.{binary_names, categories}
use Rattle.plain_patterns.proofs.examples.plain_examples.Goals as goal

pub returns : goal.returns
unfolding binary_names categories chars encode_utf8 looks members piece property read_from rewritten
returns c = record {
  empty = refl;
  letters = refl;
  word_of_lower_case = refl;
  any = refl;
  digits = refl;
  words = refl;
  bars = refl;
  groups = refl;
  no_branch = refl;
  counts = refl;
  leading_zero = refl;
  escapes = refl;
  angles = refl;
  hyphen = refl;
  class_of_signs = refl;
  not_these = refl;
  hyphen_first = refl;
  hyphen_last = refl;
  hyphen_after_range = refl;
  two_hyphens = refl;
  both = refl;
  bracket_inside = refl;
  escaped_bracket = refl;
  sets_inside = refl;
  mail = refl;
  lazy = refl;
  lazy_counts = refl;
  no_capture = refl;
  spaces = refl;
  other_digits = refl;
  other_words = refl;
  boundaries = refl;
  backspace = refl;
  controls = refl;
  control_letters = refl;
  null = refl;
  codes_of_two = refl;
  codes_of_four = refl;
  pair = refl;
  range_of_codes = refl;
  range_beyond = refl;
  empty_class = refl;
  everything = refl;
  hyphen_beside_set = refl;
  set_behind_hyphen = refl;
  hyphen_before_range = refl;
  brace = refl;
  no_count = refl;
  least_missing = refl;
  space = refl;
  open_brace = refl;
  brace_behind_count = refl;
  bracket = refl;
  blank = refl;
  code_in_braces = refl;
  hyphen_in_unicode_mode = refl;
}
