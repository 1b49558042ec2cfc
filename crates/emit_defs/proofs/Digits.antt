-- The digits of a place: one digit, or those of a tenth of it and one more.
use Rattle.std.proofs.Common.{◌≡◌, ℕ, zero, suc, ◌+◌, ◌/◌, ◌%◌, ◌<◌, ◌≤◌, List, [], ◌∷◌, ◌++◌, map, sym, ap, subst, ◌∙◌, inl, inr, eq-zero-or-pos, lit≤, lit<, arith}
use Rattle.std.specs.Int.Digits.{digits_of}
use Rattle.std.proofs.lemmas.Int.Digits.{digits_of_step}
use Rattle.std.proofs.lemmas.List.{map-append}
use Rattle.schema_defs.specs.Location.{place}

abbrev digits : ℕ → List ℕ
digits n = map (λ d. 48 + d) (digits_of 10 n)

digits_step : (n : ℕ) → 0 < n → digits n ≡ digits (n / 10) ++ (48 + n % 10) ∷ []
digits_step n h = ap (map (λ d. 48 + d)) (digits_of_step 10 n (lit≤ tt) h) ∙ map-append (λ d. 48 + d) (digits_of 10 (n / 10)) (n % 10 ∷ [])

module _ (P : ℕ → List ℕ → Type 0) (one : (n : ℕ) → n < 10 → P n ((48 + n) ∷ [])) (more : (n : ℕ) (ds : List ℕ) → 10 ≤ n → P (n / 10) ds → P n (ds ++ (48 + n % 10) ∷ [])) where
  alone : (n : ℕ) → n / 10 ≡ 0 → P n (digits (n / 10) ++ (48 + n % 10) ∷ [])
  alone n z =
      let small : n % 10 ≡ n = omega arith in
      subst (λ m. P n (digits m ++ (48 + n % 10) ∷ [])) (sym z) (subst (λ d. P n ((48 + d) ∷ [])) (sym small) (one n (omega arith)))

  digits_by : (k n : ℕ) → 0 < n → n ≤ k → P n (digits n)
  digits_by zero n h l = absurd (omega arith)
  digits_by (suc k) n h l =
      subst (P n) (sym (digits_step n h)) (elim (eq-zero-or-pos (n / 10)) [
        | inl z ↦ alone n z
        | inr g ↦ more n (digits (n / 10)) (omega arith) (digits_by k (n / 10) g (omega arith))
      ])

  pub place_by_steps : (n : ℕ) → P n (place n)
  unfolding place
  place_by_steps zero = one 0 (lit< tt)
  place_by_steps (suc n) = digits_by (suc n) (suc n) (omega arith) (omega arith)
