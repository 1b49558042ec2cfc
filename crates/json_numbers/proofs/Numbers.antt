-- Whole numbers, as they are compared.
use Rattle.std.proofs.Common.{◌≡◌, ℕ, Bool, true, false, ◌&&◌, Option, Some, None, refl, ap, sym, ◌∙◌, arith}
use Rattle.std.specs.Prelude.{ℤ, pos, negsuc, neg_ℤ, int_le, nat_lt}
use Rattle.std.proofs.lemmas.Int.{ints}
use Rattle.serde_json.specs.Data.{Num, unsigned, negative, float}
use Rattle.serde_json.specs.Find.{as_integer}
use Rattle.json_value.specs.View.{number_value}
use Rattle.reading_defs.specs.Proper.{is_json_number, has_json_numbers}

-- from the least to the greatest
abbrev pub is_within : ℤ → Bool
is_within z = int_le (neg_ℤ (pos 9223372036854775808)) z && int_le z (pos 18446744073709551615)

same_answers : (a b : Bool) → (a ≡ true → b ≡ true) → (b ≡ true → a ≡ true) → a ≡ b
same_answers true b f g = sym (f refl)
same_answers false true f g = g refl
same_answers false false f g = refl

counted : (n : ℕ) → is_within (pos n) ≡ nat_lt n 18446744073709551616
counted n = same_answers (is_within (pos n)) (nat_lt n 18446744073709551616) (λ h. grind (arith, ints)) (λ h. grind (arith, ints))

below : (n : ℕ) → is_within (negsuc n) ≡ nat_lt n 9223372036854775808
below n = same_answers (is_within (negsuc n)) (nat_lt n 9223372036854775808) (λ h. grind (arith, ints)) (λ h. grind (arith, ints))

compared : (z : ℤ) → is_within z ≡ is_json_number z
compared (pos n) = counted n
compared (negsuc n) = below n

abbrev of_option : Option ℤ → Bool
of_option (Some z) = is_json_number z
of_option None = false

seen : (d : Num) → of_option (as_integer d) ≡ has_json_numbers (number_value d)
seen (unsigned n) = refl
seen (negative z) = refl
seen (float x) = refl

pub whole : (d : Num) (z : ℤ) (b : Bool) → as_integer d ≡ Some z → b ≡ is_within z → b ≡ has_json_numbers (number_value d)
whole d z b e h = h ∙ compared z ∙ ap of_option (sym e) ∙ seen d

pub no_whole : (d : Num) → as_integer d ≡ None → false ≡ has_json_numbers (number_value d)
no_whole d e = ap of_option (sym e) ∙ seen d
