use Rattle.std.proofs.Common.{refl}
use Rattle.whole_numbers.specs.Whole.{whole, whole_number}
use Rattle.whole_numbers.proofs.examples.string_examples.Goals as goal

pub returns : goal.returns
unfolding whole whole_number
returns c = record {
  inside = refl;
  after = refl;
  escaped_quote = refl;
  escaped_backslash = refl;
  no_end = refl;
  ends_in_backslash = refl;
  backslash_outside = refl;
  member = refl;
}
