use Rattle.std.proofs.Common.{refl}
use Rattle.std.specs.Char.{encode_utf8}
use Rattle.std.specs.Str.{chars}
use Rattle.regex_hir.specs.Find.{find_str, first_from}
use Rattle.regex_hir.specs.Re.{attempt, rounds}
use Rattle.regex_hir.specs.Text.{has_bytes_at, is_boundary}
use Rattle.regex.proofs.OnLiterals.{regex_on_literals}
use Rattle.plain_patterns.specs.Plain.{members, piece}
use Rattle.plain_patterns.specs.Ends.{looks, read_from, rewritten}
use Rattle.regex_texts.specs.Search.{matches}
use Rattle.regex_texts.proofs.examples.search_examples.Goals as goal

pub returns : goal.returns
unfolding attempt chars encode_utf8 find_str first_from has_bytes_at is_boundary looks matches members piece read_from regex_on_literals rewritten rounds
returns c = record {
  empty = refl;
  within = refl;
  either = refl;
  neither = refl;
  twice = refl;
  once = refl;
  some = refl;
  punctuation = refl;
  lazy = refl;
  no_capture = refl;
  brace = refl;
  code = refl;
  repeated_twice = refl;
}
