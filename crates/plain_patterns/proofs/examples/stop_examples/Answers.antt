use Rattle.std.proofs.Common.{refl}
use Rattle.std.specs.Char.{encode_utf8}
use Rattle.std.specs.Str.{chars}
use Rattle.plain_patterns.specs.Plain.{members, piece, property}
use Rattle.plain_patterns.specs.Ends.{looks, read_from, rewritten, unread, unread_looks}
use Rattle.plain_patterns.specs.Properties.{binary_names, categories}
use Rattle.plain_patterns.proofs.examples.stop_examples.Goals as goal

pub returns : goal.returns
unfolding binary_names categories chars encode_utf8 looks members piece property read_from rewritten unread unread_looks
returns c = record {
  plain = refl;
  lookahead = refl;
  at_the_front = refl;
  eight_characters = refl;
  open_group = refl;
  closed_group = refl;
  class = refl;
  beyond_the_plane = refl;
  unicode_mode_reads_further = refl;
  other_mode_reads_further = refl;
}
