-- The number that digits write, one digit after the other.
use Rattle.std.proofs.Common.{◌≡◌, ℕ, zero, suc, ◌+◌, ◌-◌, ◌*◌, ◌^◌, ◌<◌, ◌≤◌, List, [], ◌∷◌, ◌++◌, Bool, true, length, take, get_or, refl, ap, ◌∙◌, arith}
use Rattle.std.proofs.lemmas.Bool.Decides.{nat_tests}
use Rattle.std.proofs.lemmas.Grind.{take_at_read, pow_more}
use Rattle.std.specs.List.{list_all}
use Rattle.std.specs.Char.{is_ascii_digit}
use Rattle.schema_defs.specs.Formats.{number_after, number_of}
use Rattle.schema_texts.proofs.Bools.{and_left, and_right}

digit_bounds : (c : ℕ) → is_ascii_digit c ≡ true → (48 ≤ c) × (c ≤ 57)
digit_bounds c h = (grind (arith, nat_tests), grind (arith, nat_tests))

pub digit_at : (s : List ℕ) (i : ℕ) → list_all is_ascii_digit s ≡ true → i < length s → (48 ≤ get_or s i 0) × (get_or s i 0 ≤ 57)
digit_at [] i h l = absurd (omega arith)
digit_at (c ∷ cs) zero h l = digit_bounds c (and_left (is_ascii_digit c) (list_all is_ascii_digit cs) h)
digit_at (c ∷ cs) (suc i) h l = digit_at cs i (and_right (is_ascii_digit c) (list_all is_ascii_digit cs) h) (omega arith)

number_push : (n : ℕ) (xs : List ℕ) (x : ℕ) → number_after n (xs ++ x ∷ []) ≡ number_after n xs * 10 + (x - 48)
number_push n [] x = refl
number_push n (c ∷ cs) x = number_push (n * 10 + (c - 48)) cs x

pub number_more : (s : List ℕ) (i : ℕ) → i < length s → number_of (take (i + 1) s) ≡ number_of (take i s) * 10 + (get_or s i 0 - 48)
number_more s i h = ap (number_after 0) (take_at_read s i 0 h).1 ∙ number_push 0 (take i s) (get_or s i 0)

pub pow_step : (i v d : ℕ) → v < 10 ^ i → d ≤ 9 → v * 10 + d < 10 ^ (i + 1)
pow_step i v d h l = rw (pow_more 10 i) (omega arith)

pub pow_small : (i v : ℕ) → i < 4 → v < 10 ^ i → v < 1000
pow_small zero v h l = omega arith
pow_small (suc zero) v h l = omega arith
pow_small (suc (suc zero)) v h l = omega arith
pow_small (suc (suc (suc zero))) v h l = omega arith
pow_small (suc (suc (suc (suc i)))) v h l = absurd (omega arith)

pub pow_end : (i v : ℕ) → i ≤ 4 → v < 10 ^ i → v < 10000
pow_end zero v h l = omega arith
pow_end (suc zero) v h l = omega arith
pow_end (suc (suc zero)) v h l = omega arith
pow_end (suc (suc (suc zero))) v h l = omega arith
pow_end (suc (suc (suc (suc zero)))) v h l = omega arith
pow_end (suc (suc (suc (suc (suc i))))) v h l = absurd (omega arith)
