use Rattle.std.proofs.Common.{refl}
use Rattle.std.specs.Char.{encode_utf8}
use Rattle.std.specs.Str.{chars}
use Rattle.regex_hir.specs.Find.{find_str, first_from}
use Rattle.regex_hir.specs.Looks.{holds, holds_between}
use Rattle.regex_hir.specs.Re.{attempt, rounds}
use Rattle.regex_hir.specs.Text.{byte_before, char_at, char_before, has_bytes_at, is_boundary}
use Rattle.regex.proofs.OnLiterals.{regex_on_literals}
use Rattle.plain_patterns.specs.Plain.{members, piece}
use Rattle.plain_patterns.specs.Ends.{looks, read_from, rewritten}
use Rattle.regex_texts.specs.Search.{matches}
use Rattle.regex_texts.proofs.examples.end_examples.Goals as goal

pub returns : goal.returns
unfolding attempt byte_before char_at char_before chars encode_utf8 find_str first_from has_bytes_at holds holds_between is_boundary looks matches members piece read_from regex_on_literals rewritten rounds
returns c = record {
  whole = refl;
  front = refl;
  back = refl;
  denied = refl;
  denied_there = refl;
  own_missing = refl;
  asked = refl;
  second_denied = refl;
  first_missing = refl;
  before_the_end = refl;
  denied_at_the_end = refl;
  within = refl;
}
