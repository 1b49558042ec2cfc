-- Names that differ.
use Rattle.std.proofs.Common.{◌≡◌, ℕ, List, [], ◌∷◌, ◌++◌, false, ◌||◌, refl, sym, ap, ◌∙◌, bytes_eq}
use Rattle.std.specs.List.{list_any, AllByRecursion, IsDistinct}
use Rattle.std.specs.Bool.{one_answer}
use Rattle.std.proofs.lemmas.Slice.Eq.{bytes_eq-Decides}

all-front : (P : List ℕ → Type 0) (xs ys : List (List ℕ)) → AllByRecursion P (xs ++ ys) → AllByRecursion P xs
all-front P [] ys h = tt
all-front P (x ∷ xs) ys h = (h.0, all-front P xs ys h.1)

all-middle : (P : List ℕ → Type 0) (xs : List (List ℕ)) (n : List ℕ) (ys : List (List ℕ)) → AllByRecursion P (xs ++ n ∷ ys) → P n
all-middle P [] n ys h = h.0
all-middle P (x ∷ xs) n ys h = all-middle P xs n ys h.1

pub front : (xs ys : List (List ℕ)) → IsDistinct bytes_eq (xs ++ ys) → IsDistinct bytes_eq xs
unfolding IsDistinct
front [] ys h = tt
front (x ∷ xs) ys h = (all-front (λ y. bytes_eq x y ≡ false) xs ys h.0, front xs ys h.1)

pub turned : (m n : List ℕ) → bytes_eq m n ≡ bytes_eq n m
turned m n = let d = bytes_eq-Decides n m in one_answer (bytes_eq m n) (bytes_eq n m) (bytes_eq-Decides m n) (λ h. sym (d.0 h), λ h. d.1 (sym h))

-- a name that comes later is not among those before
pub away : (xs : List (List ℕ)) (n : List ℕ) (ys : List (List ℕ)) → IsDistinct bytes_eq (xs ++ n ∷ ys) → list_any (bytes_eq n) xs ≡ false
unfolding IsDistinct
away [] n ys h = refl
away (x ∷ xs) n ys h = ap (λ b. b || list_any (bytes_eq n) xs) (turned n x ∙ all-middle (λ y. bytes_eq x y ≡ false) xs n ys h.0) ∙ away xs n ys h.1
