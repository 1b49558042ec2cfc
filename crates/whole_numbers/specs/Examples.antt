-- Worked examples: how bytes are rewritten.
use Rattle.std.specs.Prelude.{◌≡◌, codes}
use Rattle.whole_numbers.specs.Whole.{whole}

pub record NumberExamples : Type 0 where
  pub list : whole (codes "[1.0,-0,\"1.0\",1.5]") ≡ codes "[1,0,\"1.0\",1.5]"
  pub nothing : whole (codes "") ≡ codes ""
  pub one_run : whole (codes "12.000") ≡ codes "12"
  pub at_both_ends : whole (codes "1.0 2.0") ≡ codes "1 2"
  pub fraction : whole (codes "1.50") ≡ codes "1.50"
  pub late_digit : whole (codes "1.001") ≡ codes "1.001"
  pub negative : whole (codes "-7.0") ≡ codes "-7"
  pub minus_zero : whole (codes "-0") ≡ codes "0"
  pub minus_zero_point : whole (codes "-0.0") ≡ codes "0"
  pub minus_zero_fraction : whole (codes "-0.5") ≡ codes "-0.5"
  pub zero : whole (codes "0.00") ≡ codes "0"
  pub exponent : whole (codes "1.0e0") ≡ codes "1.0e0"
  pub large_exponent : whole (codes "10E2") ≡ codes "10E2"
  pub no_fraction : whole (codes "1.") ≡ codes "1."
  pub no_integer : whole (codes ".0") ≡ codes ".0"
  pub two_signs : whole (codes "--1") ≡ codes "--1"
  pub plus : whole (codes "+1.0") ≡ codes "+1.0"
  pub sign_alone : whole (codes "-") ≡ codes "-"
  pub leading_zero : whole (codes "01.0") ≡ codes "01.0"
  pub two_points : whole (codes "1.0.0") ≡ codes "1.0.0"
  pub difference : whole (codes "3.0-1.0") ≡ codes "3.0-1.0"
  pub letter_of_a_word : whole (codes "true 1.0") ≡ codes "true 1"
  pub beyond_64_bits : whole (codes "123456789012345678901234567890.0") ≡ codes "123456789012345678901234567890"

pub record StringExamples : Type 0 where
  pub inside : whole (codes "\"1.0\"") ≡ codes "\"1.0\""
  pub after : whole (codes "\"a\"1.0") ≡ codes "\"a\"1"
  pub escaped_quote : whole (codes "\"a\\\" 1.0\" 1.0") ≡ codes "\"a\\\" 1.0\" 1"
  pub escaped_backslash : whole (codes "\"a\\\\\" 1.0") ≡ codes "\"a\\\\\" 1"
  pub no_end : whole (codes "1.0 \"2.0") ≡ codes "1 \"2.0"
  pub ends_in_backslash : whole (codes "\"\\") ≡ codes "\"\\"
  pub backslash_outside : whole (codes "\\\"1.0\" 1.0") ≡ codes "\\\"1.0\" 1"
  pub member : whole (codes "{\"-0\":-0}") ≡ codes "{\"-0\":0}"
