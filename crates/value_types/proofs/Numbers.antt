-- Decimal digits, and the numbers that they write.
use Rattle.std.proofs.Common.{◌≡◌, ℕ, ◌+◌, ◌-◌, ◌*◌, ◌&&◌, ◌<◌, ◌≤◌, suc, List, [], ◌∷◌, length, drop, drop-cons, get_or, Bool, true, false, None, is_some, refl, sym, ap, subst, ◌∙◌, arith}
use Rattle.std.specs.Prelude.{if◌then◌else◌}
use Rattle.std.specs.List.{list_all}
use Rattle.std.specs.Char.{is_ascii_digit}
use Rattle.value_types.specs.Large.{IsTooLarge}
use Rattle.type_spellings.specs.Types.{number_from, number_of}

pub digits_from : (n : ℕ) (cs : List ℕ) → is_some (number_from n cs) ≡ list_all is_ascii_digit cs
digits_from n [] = refl
digits_from n (c ∷ cs) =
    elim (is_ascii_digit c) as (λ b. is_some (if b then number_from (n * 10 + (c - 48)) cs else None) ≡ (b && list_all is_ascii_digit cs)) [ true ↦ digits_from (n * 10 + (c - 48)) cs | false ↦ refl ]

pub no_number : (cs : List ℕ) → length cs ≡ 0 → false ≡ is_some (number_of cs)
no_number [] h = refl
no_number (c ∷ cs) h = absurd (omega arith)

pub digits_are_numbers : (cs : List ℕ) (b : Bool) → 1 ≤ length cs → b ≡ list_all is_ascii_digit cs → b ≡ is_some (number_of cs)
digits_are_numbers [] b h e = absurd (omega arith)
digits_are_numbers (c ∷ cs) b h e = e ∙ sym (digits_from 0 (c ∷ cs))

-- ---- numbers that a u64 doesn't hold

pub none_written : (cs : List ℕ) → length cs ≡ 0 → IsTooLarge (number_of cs)
none_written [] h = tt
none_written (c ∷ cs) h = absurd (omega arith)

pub some_written : (cs : List ℕ) → 1 ≤ length cs → number_of cs ≡ number_from 0 cs
some_written [] h = absurd (omega arith)
some_written (c ∷ cs) h = refl

large_stays : (n : ℕ) (cs : List ℕ) → 18446744073709551616 ≤ n → IsTooLarge (number_from n cs)
large_stays n [] h = h
large_stays n (c ∷ cs) h =
    elim (is_ascii_digit c) as (λ b. IsTooLarge (if b then number_from (n * 10 + (c - 48)) cs else None)) [ true ↦ large_stays (n * 10 + (c - 48)) cs (omega arith) | false ↦ tt ]

at_no_digit : (n c : ℕ) (cs : List ℕ) → is_ascii_digit c ≡ false → IsTooLarge (number_from n (c ∷ cs))
at_no_digit n c cs h = subst (λ b. IsTooLarge (if b then number_from (n * 10 + (c - 48)) cs else None)) (sym h) tt

at_large : (n c : ℕ) (cs : List ℕ) → is_ascii_digit c ≡ true → 18446744073709551616 ≤ n * 10 + (c - 48) → IsTooLarge (number_from n (c ∷ cs))
at_large n c cs h k = subst (λ b. IsTooLarge (if b then number_from (n * 10 + (c - 48)) cs else None)) (sym h) (large_stays (n * 10 + (c - 48)) cs k)

module _ (cs : List ℕ) (i n : ℕ) (h : i < length cs) (was : number_from n (drop i cs) ≡ number_from 0 cs) where
  split : number_from n (get_or cs i 0 ∷ drop (suc i) cs) ≡ number_from 0 cs
  split = sym (ap (number_from n) (drop-cons cs i 0 h)) ∙ was

  pub no_digit_ends : is_ascii_digit (get_or cs i 0) ≡ false → IsTooLarge (number_from 0 cs)
  no_digit_ends e = subst IsTooLarge split (at_no_digit n (get_or cs i 0) (drop (suc i) cs) e)

  pub large_ends : is_ascii_digit (get_or cs i 0) ≡ true → 18446744073709551616 ≤ n * 10 + (get_or cs i 0 - 48) → IsTooLarge (number_from 0 cs)
  large_ends e k = subst IsTooLarge split (at_large n (get_or cs i 0) (drop (suc i) cs) e k)
