-- Tests of two parts, and texts compared from either side.
use Rattle.std.proofs.Common.{◌≡◌, ℕ, ◌&&◌, List, Bool, true, false, bytes_eq, refl, sym}
use Rattle.std.proofs.lemmas.Bool.Decides.{same_from_decides, Decides-like}
use Rattle.std.proofs.lemmas.Slice.Eq.{bytes_eq-Decides}

pub and_left : (a b : Bool) → (a && b) ≡ true → a ≡ true
and_left true b h = refl
and_left false b h = cc

pub and_right : (a b : Bool) → (a && b) ≡ true → b ≡ true
and_right true b h = h
and_right false b h = cc

pub and_false : (a : Bool) → (a && false) ≡ false
and_false true = refl
and_false false = refl

pub bytes_eq_swap : (x y : List ℕ) → bytes_eq x y ≡ bytes_eq y x
bytes_eq_swap x y =
    same_from_decides (bytes_eq x y) (bytes_eq y x) (bytes_eq-Decides x y)
    (Decides-like (bytes_eq y x) (λ e. sym e) (λ e. sym e) (bytes_eq-Decides y x))
