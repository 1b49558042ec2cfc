use Rattle.std.proofs.Common.{refl}
use Rattle.std.specs.Char.{encode_utf8}
use Rattle.std.specs.Str.{chars}
use Rattle.plain_patterns.specs.Plain.{members, piece, property}
use Rattle.plain_patterns.specs.Ends.{looks, read_from, rewritten}
use Rattle.plain_patterns.specs.Properties.{binary_names, categories}
use Rattle.plain_patterns.proofs.examples.other_ends_examples.Goals as goal

pub returns : goal.returns
unfolding binary_names categories chars encode_utf8 looks members piece property read_from rewritten
returns c = record {
  no_start = refl;
  bar = refl;
  bar_before = refl;
  within = refl;
  in_group = refl;
  not_at_end = refl;
  no_end = refl;
  behind_start = refl;
  before_end = refl;
  repeated = refl;
  repeated_before_end = refl;
  one_in_another = refl;
  one_behind_another = refl;
  not_closed = refl;
  closed_twice = refl;
  modes_apart = refl;
}
