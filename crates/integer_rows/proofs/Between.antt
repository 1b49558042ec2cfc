-- A number and bounds, one of which it may not reach.
use Rattle.std.proofs.Common.{◌≡◌, ℤ, pos, ◌+ℤ◌, ◌-ℤ◌, Bool, true, false, ◌&&◌, refl, ap, ◌∙◌, int_le, int_lt, arith}
use Rattle.std.specs.Prelude.{if◌then◌else◌}
use Rattle.std.proofs.lemmas.Int.{ints}

pub from_above : (b z : ℤ) → int_lt b z ≡ int_le (b +ℤ pos 1) z
from_above b z = grind (arith, ints)

pub up_to_below : (b z : ℤ) → int_lt z b ≡ int_le z (b -ℤ pos 1)
up_to_below b z = grind (arith, ints)

-- the greater of two bounds from below, and the lesser of two from above
pub from_both : (a b z : ℤ) → (int_le a z && int_lt b z) ≡ int_le (if int_le a (b +ℤ pos 1) then b +ℤ pos 1 else a) z
from_both a b z = ap (λ c. int_le a z && c) (from_above b z) ∙ grind (arith, ints)

pub up_to_both : (a b z : ℤ) → (int_le z a && int_lt z b) ≡ int_le z (if int_le a (b -ℤ pos 1) then a else b -ℤ pos 1)
up_to_both a b z = ap (λ c. int_le z a && c) (up_to_below b z) ∙ grind (arith, ints)
