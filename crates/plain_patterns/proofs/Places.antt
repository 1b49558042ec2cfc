-- The place of the first name that is spelled so.
use Rattle.std.proofs.Common.{◌≡◌, ◌∙◌, ap, ap₂, ℕ, suc, ◌+◌, List, [], ◌∷◌, Bool, map, length, cond, refl, not, nat_lt, bytes_eq, Option, Some, None, Bor}
use Rattle.std.specs.Prelude.{position}
use Rattle.std.specs.List.{prefix_len}

module _ {X Y : Type 0} (f : X → Y) (p : Y → Bool) where
  same_prefix : (xs : List X) → prefix_len (λ x. p (f x)) xs ≡ prefix_len p (map f xs)
  same_prefix [] = refl
  same_prefix (x ∷ xs) = ap (λ n. cond (p (f x)) (1 + n) 0) (same_prefix xs)

same_length : {X Y : Type 0} (f : X → Y) (xs : List X) → length xs ≡ length (map f xs)
same_length f [] = refl
same_length f (x ∷ xs) = ap suc (same_length f xs)

abbrev place : ℕ → ℕ → Option ℕ
place n m = cond (nat_lt n m) (Some n) None

pub position_mapped : (text : List ℕ) (xs : List (Bor (List ℕ))) (names : List (List ℕ)) → map (λ n. n.now) xs ≡ names
    → position (λ n. bytes_eq n.now text) xs ≡ position (λ n. bytes_eq n text) names
position_mapped text xs names e =
    ap₂ place (same_prefix (λ n. n.now) (λ n. not (bytes_eq n text)) xs) (same_length (λ n. n.now) xs) ∙ ap (position (λ n. bytes_eq n text)) e
