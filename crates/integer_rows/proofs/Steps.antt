-- A bound and one further: where it is the last number, the last number stands for it.
use Rattle.std.proofs.Common.{◌≡◌, ◌⊎◌, inl, inr, ℤ, pos, negsuc, ◌+ℤ◌, ◌-ℤ◌, ◌≤ℤ◌, Bool, true, false, Option, Some, None, refl, sym, ap, ◌∙◌, int_le, arith}
use Rattle.std.specs.Prelude.{if◌then◌else◌}
use Rattle.std.proofs.lemmas.Int.{ints}
use Rattle.convert_defs.specs.IntegerRow.{greater, lesser}
use Rattle.integer_rows.specs.Bounds.{IsAbove, IsBelow, IsLeast, IsGreatest, after, before, last_number, first_number}

pub at_last : (z : ℤ) → last_number ≤ℤ z → z ≤ℤ last_number → IsAbove z last_number
at_last z h k = inr (same, refl)
  where
    same : z +ℤ pos 1 ≡ after
    same = grind (arith, ints)

pub at_first : (z : ℤ) → z ≤ℤ first_number → first_number ≤ℤ z → IsBelow z first_number
at_first z h k = inr (same, refl)
  where
    same : z -ℤ pos 1 ≡ before
    same = grind (arith, ints)

pub greater_far : (z : ℤ) → z ≤ℤ last_number → greater (Some z) (Some after) ≡ Some after
greater_far z h = λ i. if is i then Some after else Some z
  where
    is : int_le z after ≡ true
    is = grind (arith, ints)

pub greater_near : (z : ℤ) → z ≤ℤ last_number → greater (Some z) (Some last_number) ≡ Some last_number
greater_near z h = λ i. if is i then Some last_number else Some z
  where
    is : int_le z last_number ≡ true
    is = grind (arith, ints)

pub lesser_far : (z : ℤ) → first_number ≤ℤ z → lesser (Some z) (Some before) ≡ Some before
lesser_far z h = λ i. if is i then Some z else Some before
  where
    is : int_le z before ≡ false
    is = grind (arith, ints)

pub lesser_near : (z : ℤ) → first_number ≤ℤ z → lesser (Some z) (Some first_number) ≡ Some first_number
lesser_near z h = by (int_le z first_number) refl
  where
    by : (b : Bool) → int_le z first_number ≡ b → (if b then Some z else Some first_number) ≡ Some first_number
    by true k = ap Some same
      where
        same : z ≡ first_number
        same = grind (arith, ints)
    by false k = refl

pub least_case : (m : Option ℤ) (z y r : ℤ) → IsAbove z y → Some r ≡ greater m (Some y) → greater m (Some after) ≡ Some after → greater m (Some last_number) ≡ Some last_number
    → IsLeast (greater m (Some (z +ℤ pos 1))) (Some r)
least_case m z y r (inl p) v f n = inl (v ∙ ap (λ x. greater m (Some x)) p)
least_case m z y r (inr (p, q)) v f n = inr (ap (λ x. greater m (Some x)) p ∙ f, v ∙ ap (λ x. greater m (Some x)) q ∙ n)

pub least_plain : (m : Option ℤ) → IsLeast (greater m None) m
least_plain None = inl refl
least_plain (Some z) = inl refl

pub greatest_case : (m : Option ℤ) (z y r : ℤ) → IsBelow z y → Some r ≡ lesser m (Some y) → lesser m (Some before) ≡ Some before → lesser m (Some first_number) ≡ Some first_number
    → IsGreatest (lesser m (Some (z -ℤ pos 1))) (Some r)
greatest_case m z y r (inl p) v f n = inl (v ∙ ap (λ x. lesser m (Some x)) p)
greatest_case m z y r (inr (p, q)) v f n = inr (ap (λ x. lesser m (Some x)) p ∙ f, v ∙ ap (λ x. lesser m (Some x)) q ∙ n)

pub greatest_plain : (m : Option ℤ) → IsGreatest (lesser m None) m
greatest_plain None = inl refl
greatest_plain (Some z) = inl refl
