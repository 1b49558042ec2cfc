-- The place of the first character that is no digit.
use Rattle.std.proofs.Common.{◌≡◌, ℕ, ◌≤◌, List, Bool, true, false, length, cond, refl, arith, Some, None, unwrap_or, nat_lt}
use Rattle.std.specs.Prelude.{position}
use Rattle.std.specs.List.{position_or_len}
use Rattle.std.proofs.lemmas.Bool.{ltb-false}
use Rattle.std.proofs.lemmas.List.Sums.{prefix_len-le-length}

by_test : (b : Bool) (n m : ℕ) → n ≤ m → nat_lt n m ≡ b → unwrap_or (cond b (Some n) None) m ≡ n
by_test true n m le e = refl
by_test false n m le e = let back : m ≤ n = ltb-false n m e in omega arith

-- the place that was found, or the end
pub position_else_length : {X : Type 0} (p : X → Bool) (xs : List X) → unwrap_or (position p xs) (length xs) ≡ position_or_len p xs
position_else_length p xs = by_test (nat_lt (position_or_len p xs) (length xs)) (position_or_len p xs) (length xs) (prefix_len-le-length _ xs) refl
