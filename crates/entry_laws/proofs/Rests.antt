-- Tests that hold of more and more, and go by what held before at so many points, come to rest after as many rounds.
use Rattle.std.proofs.Common.{◌≡◌, ℕ, zero, suc, ◌≤◌, ◌<◌, List, [], ◌∷◌, length, Bool, true, false, refl, sym, true≢false, ◌⊎◌, inl, inr, arith}
use Rattle.std.specs.List.{AllByRecursion}

abbrev one_more : Bool → ℕ → ℕ
one_more true n = suc n
one_more false n = n

-- at how many of the points it holds
abbrev count : {A : Type 0} → (A → Bool) → List A → ℕ
count f [] = 0
count f (x ∷ xs) = one_more (f x) (count f xs)

at-most : {A : Type 0} (f : A → Bool) (xs : List A) → count f xs ≤ length xs
at-most f [] = let e : 0 ≤ 0 = omega arith in e
at-most f (x ∷ xs) = by (f x) (count f xs) (length xs) (at-most f xs)
  where
    by : (b : Bool) (m n : ℕ) → m ≤ n → one_more b m ≤ suc n
    by true m n l = omega arith
    by false m n l = omega arith

all-of : {A : Type 0} (P : A → Type 0) → ((a : A) → P a) → (xs : List A) → AllByRecursion P xs
all-of P f [] = tt
all-of P f (x ∷ xs) = (f x, all-of P f xs)

module _ {A : Type 0} (f g : A → Bool) (more : (a : A) → f a ≡ true → g a ≡ true) where
  abbrev Same : List A → Type 0
  Same xs = AllByRecursion (λ a. f a ≡ g a) xs

  -- either they are the same, or the second holds of more
  either : (xs : List A) → (count f xs ≤ count g xs) × (Same xs ⊎ (count f xs < count g xs))
  either [] = (let e : 0 ≤ 0 = omega arith in e, inl tt)
  either (x ∷ xs) = let rec = either xs in by (f x) (g x) (more x) (count f xs) (count g xs) (Same xs) rec.0 rec.1
    where
      by : (a b : Bool) → (a ≡ true → b ≡ true) → (m n : ℕ) (S : Type 0) → m ≤ n → S ⊎ (m < n) → (one_more a m ≤ one_more b n) × (((a ≡ b) × S) ⊎ (one_more a m < one_more b n))
      by true true h m n S l (inl s) = (omega arith, inl (refl, s))
      by true true h m n S l (inr k) = (omega arith, inr (omega arith))
      by true false h m n S l s = absurd (true≢false (sym (h refl)))
      by false true h m n S l s = (omega arith, inr (omega arith))
      by false false h m n S l (inl s) = (l, inl (refl, s))
      by false false h m n S l (inr k) = (l, inr k)

module _ {A : Type 0} (f : ℕ → A → Bool) (xs : List A) (more : (k : ℕ) (a : A) → f k a ≡ true → f (suc k) a ≡ true)
    (again : (k : ℕ) → AllByRecursion (λ a. f k a ≡ f (suc k) a) xs → (a : A) → f (suc k) a ≡ f (suc (suc k)) a) where
  abbrev Rests : ℕ → Type 0
  Rests k = AllByRecursion (λ a. f k a ≡ f (suc k) a) xs

  rests-on : (k : ℕ) → Rests k → Rests (suc k)
  rests-on k h = all-of (λ a. f (suc k) a ≡ f (suc (suc k)) a) (again k h) xs

  rests-or : (k : ℕ) → Rests k ⊎ (k < count (f (suc k)) xs)
  rests-or zero = elim (either (f 0) (f 1) (more 0) xs).1 [ inl h ↦ inl h | inr l ↦ inr (omega arith) ]
  rests-or (suc k) =
      let next = (either (f (suc k)) (f (suc (suc k))) (more (suc k)) xs).1 in
      elim (rests-or k) [
        | inl h ↦ inl (rests-on k h)
        | inr l ↦ elim next [ inl h ↦ inl h | inr m ↦ inr (omega arith) ]
      ]

  at-rest : (k : ℕ) → length xs ≤ k → Rests k
  at-rest k l =
      let most = at-most (f (suc k)) xs in
      elim (rests-or k) [ inl h ↦ h | inr m ↦ absurd (omega arith) ]

  -- from then on nothing changes
  pub settled : (k : ℕ) → length xs ≤ k → (a : A) → f (suc k) a ≡ f (suc (suc k)) a
  settled k l a = again k (at-rest k l) a
