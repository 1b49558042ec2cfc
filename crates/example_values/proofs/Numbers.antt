-- Whether numbers of rounds are within so many.
use Rattle.std.proofs.Common.{◌≡◌, ℕ, suc, ◌≤◌, ◌<◌, cond, Bool, true, false, ◌&&◌, ◌||◌, Some, None, refl, sym, ap, ◌∙◌, true≢false, arith}
use Rattle.std.specs.Prelude.{nat_le}
use Rattle.std.proofs.Math.Dec.{leb-zero, leb-suc-zero, leb-suc-suc}
use Rattle.std.proofs.lemmas.Bool.{le-leb, lt-leb, leb-true, leb-false}
use Rattle.example_values.specs.Fewest.{Rounds, later, greater, lesser, both, either, before_first, in_first, are_within}

and_false : (a : Bool) → false ≡ (a && false)
and_false true = refl
and_false false = refl

or_true : (a : Bool) → true ≡ (a || true)
or_true true = refl
or_true false = refl

or_same : (a : Bool) → a ≡ (a || false)
or_same true = refl
or_same false = refl

greater_within : (a b n : ℕ) → nat_le (greater a b) n ≡ (nat_le a n && nat_le b n)
greater_within a b n = elim (nat_le a b) as (λ t. nat_le a b ≡ t → nat_le (cond t b a) n ≡ (nat_le a n && nat_le b n)) [
  | true ↦ λ e. elim (nat_le b n) as (λ t. nat_le b n ≡ t → t ≡ (nat_le a n && t)) [
    | true ↦ λ d. sym (ap (λ z. z && true) (le-leb a n (omega (arith, leb-true a b e, leb-true b n d))))
    | false ↦ λ d. and_false (nat_le a n)
  ] refl
  | false ↦ λ e. elim (nat_le a n) as (λ t. nat_le a n ≡ t → t ≡ (t && nat_le b n)) [
    | true ↦ λ d. sym (le-leb b n (omega (arith, leb-false a b e, leb-true a n d)))
    | false ↦ λ d. refl
  ] refl
] refl

lesser_within : (a b n : ℕ) → nat_le (lesser a b) n ≡ (nat_le a n || nat_le b n)
lesser_within a b n = elim (nat_le a b) as (λ t. nat_le a b ≡ t → nat_le (cond t a b) n ≡ (nat_le a n || nat_le b n)) [
  | true ↦ λ e. elim (nat_le a n) as (λ t. nat_le a n ≡ t → t ≡ (t || nat_le b n)) [
    | true ↦ λ d. refl
    | false ↦ λ d. sym (lt-leb b n (omega (arith, leb-true a b e, leb-false a n d)))
  ] refl
  | false ↦ λ e. elim (nat_le b n) as (λ t. nat_le b n ≡ t → t ≡ (nat_le a n || t)) [
    | true ↦ λ d. or_true (nat_le a n)
    | false ↦ λ d. ap (λ z. z || false) (sym (lt-leb a n (omega (arith, leb-false a b e, leb-false b n d))))
  ] refl
] refl

pub both_within : (x y : Rounds) (n : ℕ) → are_within (both x y) n ≡ (are_within x n && are_within y n)
both_within None y n = refl
both_within (Some a) None n = and_false (nat_le a n)
both_within (Some a) (Some b) n = greater_within a b n

pub either_within : (x y : Rounds) (n : ℕ) → are_within (either x y) n ≡ (are_within x n || are_within y n)
either_within None y n = refl
either_within (Some a) None n = or_same (nat_le a n)
either_within (Some a) (Some b) n = lesser_within a b n

pub later_within : (x : Rounds) (n : ℕ) → are_within (later x) (suc n) ≡ are_within x n
later_within None n = refl
later_within (Some k) n = leb-suc-suc k n

pub later_first : (x : Rounds) → are_within (later x) 0 ≡ false
later_first None = refl
later_first (Some k) = leb-suc-zero k

pub before_within : (b : Bool) (n : ℕ) → are_within (before_first b) n ≡ b
before_within true n = leb-zero n
before_within false n = refl

pub one_within : (n : ℕ) → are_within (Some 1) (suc n) ≡ true
one_within n = leb-suc-suc 0 n ∙ leb-zero n

pub in_first_within : (b : Bool) (n : ℕ) → are_within (in_first b) (suc n) ≡ b
in_first_within true n = one_within n
in_first_within false n = refl

pub in_first_zero : (b : Bool) → are_within (in_first b) 0 ≡ false
in_first_zero true = leb-suc-zero 0
in_first_zero false = refl

-- built in so many, and not in one fewer: these are the fewest
pub exactly : (x : Rounds) (n : ℕ) → are_within x n ≡ true → are_within (later x) n ≡ false → x ≡ Some n
exactly None n h k = absurd (true≢false (sym h))
exactly (Some m) n h k = ap Some (let a : m ≤ n = leb-true m n h in let b : n < suc m = leb-false (suc m) n k in omega (arith, a, b))
