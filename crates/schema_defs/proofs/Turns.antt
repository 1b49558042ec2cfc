-- One element of a list after another.
use Rattle.std.proofs.Common.{◌≡◌, ℕ, suc, ◌+◌, ◌<◌, List, ◌∷◌, map, drop, length, get_or, drop-cons, sym, ap, ◌∙◌, arith}

pub mapped_drop : {X Y : Type 0} (f : X → Y) (xs : List X) (i : ℕ) (x : X) → i < length xs → x ≡ get_or xs i x → map f (drop i xs) ≡ f x ∷ map f (drop (i + 1) xs)
mapped_drop f xs i x h e =
    ap (map f) (drop-cons xs i x h) ∙ ap (λ y. f y ∷ map f (drop (suc i) xs)) (sym e) ∙ ap (λ n. f x ∷ map f (drop n xs)) (let k : suc i ≡ i + 1 = omega arith in k)
