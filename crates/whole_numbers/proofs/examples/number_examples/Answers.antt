use Rattle.std.proofs.Common.{refl}
use Rattle.whole_numbers.specs.Whole.{whole, whole_number}
use Rattle.whole_numbers.proofs.examples.number_examples.Goals as goal

pub returns : goal.returns
unfolding whole whole_number
returns c = record {
  list = refl;
  nothing = refl;
  one_run = refl;
  at_both_ends = refl;
  fraction = refl;
  late_digit = refl;
  negative = refl;
  minus_zero = refl;
  minus_zero_point = refl;
  minus_zero_fraction = refl;
  zero = refl;
  exponent = refl;
  large_exponent = refl;
  no_fraction = refl;
  no_integer = refl;
  two_signs = refl;
  plus = refl;
  sign_alone = refl;
  leading_zero = refl;
  two_points = refl;
  difference = refl;
  letter_of_a_word = refl;
  beyond_64_bits = refl;
}
