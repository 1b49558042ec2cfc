-- Digits that write a number, and the digits of its place.
use Rattle.std.proofs.Common.{◌≡◌, ℕ, zero, suc, ◌+◌, ◌-◌, ◌*◌, ◌/◌, ◌%◌, ◌<◌, ◌≤◌, ◌&&◌, List, [], ◌∷◌, ◌++◌, map, Bool, true, false, Option, Some, None, refl, sym, ap, subst, ◌∙◌, cond, append_assoc, append-nil, true≢false, get_or, inl, inr, eq-zero-or-pos, lit≤, arith}
use Rattle.std.specs.Prelude.{nat_le}
use Rattle.std.specs.Int.Digits.{digits_of}
use Rattle.std.proofs.lemmas.Bool.{and_parts, leb-true}
use Rattle.std.proofs.lemmas.Int.Digits.{digits_of_step, first_digits_of}
use Rattle.std.proofs.lemmas.List.{map-append}
use Rattle.schema_defs.specs.Location.{place}
use Rattle.type_spellings.specs.Types.{number_from, number_of}

abbrev digits : ℕ → List ℕ
digits n = map (λ d. 48 + d) (digits_of 10 n)

digits_step : (n : ℕ) → 0 < n → digits n ≡ digits (n / 10) ++ (48 + n % 10) ∷ []
digits_step n h = ap (map (λ d. 48 + d)) (digits_of_step 10 n (lit≤ tt) h) ∙ map-append (λ d. 48 + d) (digits_of 10 (n / 10)) (n % 10 ∷ [])

place_digits : (n : ℕ) → 0 < n → place n ≡ digits n
unfolding place
place_digits zero h = absurd (omega arith)
place_digits (suc n) h = refl

-- one digit more
with_digit : (m c : ℕ) → 48 ≤ c → c ≤ 57 → 0 < m * 10 + (c - 48) → digits (m * 10 + (c - 48)) ≡ digits m ++ c ∷ []
with_digit m c l r h =
    let tens : (m * 10 + (c - 48)) / 10 ≡ m = omega arith in
    let last : 48 + (m * 10 + (c - 48)) % 10 ≡ c = omega arith in
    digits_step (m * 10 + (c - 48)) h ∙ (λ i. digits (tens i) ++ last i ∷ [])

number_or : ℕ → Option ℕ → ℕ
number_or d None = d
number_or d (Some n) = n

some_number : (m n : ℕ) → Some m ≡ Some n → m ≡ n
unfolding number_or
some_number m n e = ap (number_or 0) e

none_some : (n : ℕ) → None ≡ Some n → ⊥
none_some n e = cc

-- the digits that were read, then those that are left
goes_on : (m : ℕ) (cs : List ℕ) (n : ℕ) → 0 < m → number_from m cs ≡ Some n → digits m ++ cs ≡ digits n
goes_on m [] n h e = append-nil (digits m) ∙ ap digits (some_number m n e)
goes_on m (c ∷ cs) n h e =
    let test = nat_le 48 c && nat_le c 57 in
    let rec = goes_on (m * 10 + (c - 48)) cs n (omega arith) in
    elim test as (λ b. test ≡ b → cond b (number_from (m * 10 + (c - 48)) cs) None ≡ Some n → digits m ++ c ∷ cs ≡ digits n) [
      | true ↦ λ t k.
          let p = and_parts (nat_le 48 c) (nat_le c 57) t in
          let l = leb-true 48 c p.0 in
          let r = leb-true c 57 p.1 in
          sym (append_assoc (digits m) (c ∷ []) cs) ∙ ap (λ ds. ds ++ cs) (sym (with_digit m c l r (omega arith))) ∙ rec k
      | false ↦ λ t k. absurd (none_some n k)
    ] refl e

-- digits without a zero in front are those of their number
pub no_zero_in_front : (c : ℕ) (ds : List ℕ) (n : ℕ) → (c ≡ 48 → ⊥) → number_of (c ∷ ds) ≡ Some n → 0 < n → place n ≡ c ∷ ds
no_zero_in_front c ds n z e h =
    let test = nat_le 48 c && nat_le c 57 in
    elim test as (λ b. test ≡ b → cond b (number_from (0 * 10 + (c - 48)) ds) None ≡ Some n → place n ≡ c ∷ ds) [
      | true ↦ λ t k.
          let p = and_parts (nat_le 48 c) (nat_le c 57) t in
          let l = leb-true 48 c p.0 in
          let r = leb-true c 57 p.1 in
          let some = above c l z in
          place_digits n h ∙ sym (goes_on (0 * 10 + (c - 48)) ds n (omega arith) k) ∙ ap (λ xs. xs ++ ds) (with_digit 0 c l r (omega arith))
      | false ↦ λ t k. absurd (none_some n k)
    ] refl e
  where
    above : (c : ℕ) → 48 ≤ c → (c ≡ 48 → ⊥) → 48 < c
    above c l z = elim (eq-zero-or-pos (c - 48)) [ inl q ↦ absurd (z (omega arith)) | inr g ↦ omega arith ]

-- no number but zero has a zero in front
pub zero_in_front : (ds : List ℕ) (n : ℕ) → 0 < n → place n ≡ 48 ∷ ds → ⊥
zero_in_front ds n h e = by (digits_of 10 n) (first_digits_of 10 n (lit≤ tt) h) (sym (place_digits n h) ∙ e)
  where
    by : (xs : List ℕ) → 0 < get_or xs 0 0 → map (λ d. 48 + d) xs ≡ 48 ∷ ds → ⊥
    by [] g k = absurd (omega arith)
    by (x ∷ xs) g k = let first : 48 + x ≡ 48 = ap (λ ys. get_or ys 0 0) k in absurd (omega arith)
