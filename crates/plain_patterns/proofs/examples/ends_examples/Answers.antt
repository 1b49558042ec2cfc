use Rattle.std.proofs.Common.{refl}
use Rattle.std.specs.Char.{encode_utf8}
use Rattle.std.specs.Str.{chars}
use Rattle.plain_patterns.specs.Plain.{members, piece, property}
use Rattle.plain_patterns.specs.Ends.{looks, read_from, rewritten}
use Rattle.plain_patterns.specs.Properties.{binary_names, categories}
use Rattle.plain_patterns.proofs.examples.ends_examples.Goals as goal

pub returns : goal.returns
unfolding binary_names categories chars encode_utf8 looks members piece property read_from rewritten
returns c = record {
  denied = refl;
  asked = refl;
  several = refl;
  before_the_end = refl;
  no_start = refl;
  both_ends = refl;
  nothing_between = refl;
  nothing_inside = refl;
  groups_inside = refl;
  bar_in_group = refl;
  in_unicode_mode = refl;
}
