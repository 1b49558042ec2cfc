-- The next of elements that are read one after the other.
use Rattle.std.proofs.Common.{◌≡◌, ℕ, suc, ◌+◌, ◌<◌, List, ◌∷◌, map, drop, drop-cons, length, get_or, ap, ◌∙◌, arith}

pub mapped_get : {X Y : Type 0} → (f : X → Y) (xs : List X) (i : ℕ) (d : X) → i < length xs → map f (drop i xs) ≡ f (get_or xs i d) ∷ map f (drop (i + 1) xs)
mapped_get f xs i d h =
    ap (map f) (drop-cons xs i d h) ∙ ap (λ n. f (get_or xs i d) ∷ map f (drop n xs)) (let k : suc i ≡ i + 1 = omega arith in k)
