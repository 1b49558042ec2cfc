-- One more turn of a loop that reads a list, or fills one.
use Rattle.std.proofs.Common.{◌≡◌, ℕ, suc, ◌+◌, ◌<◌, ◌≤◌, List, [], ◌∷◌, ◌++◌, map, drop, drop-cons, length, get_or, refl, sym, ap, ◌∙◌, append_assoc, arith}
use Rattle.std.proofs.lemmas.List.{drop_all, append-nil, map-append}

pub mapped_get : {X Y : Type 0} → (f : X → Y) (xs : List X) (i : ℕ) (d : X) → i < length xs → map f (drop i xs) ≡ f (get_or xs i d) ∷ map f (drop (i + 1) xs)
mapped_get f xs i d h =
    ap (map f) (drop-cons xs i d h) ∙ ap (λ n. f (get_or xs i d) ∷ map f (drop n xs)) (let k : suc i ≡ i + 1 = omega arith in k)

pub mapped_drop : {X Y : Type 0} → (f : X → Y) (xs : List X) (i : ℕ) (x : X) → i < length xs → x ≡ get_or xs i x → map f (drop i xs) ≡ f x ∷ map f (drop (i + 1) xs)
mapped_drop f xs i x h e = mapped_get f xs i x h ∙ ap (λ y. f y ∷ map f (drop (i + 1) xs)) (sym e)

pub mapped_past : {X Y : Type 0} → (f : X → Y) (xs : List X) (i : ℕ) → length xs ≤ i → map f (drop i xs) ≡ []
mapped_past f xs i h = ap (map f) (drop_all i xs h)

-- one more that is done, and one of those wanted less
pub one_more : {X Y : Type 0} → (f : X → Y) (old new : List X) (x : X) (rest w : List Y) → new ≡ old ++ x ∷ [] → map f old ++ f x ∷ rest ≡ w → map f new ++ rest ≡ w
one_more f old new x rest w n was =
    ap (λ xs. map f xs ++ rest) n ∙ ap (λ ys. ys ++ rest) (map-append f old (x ∷ [])) ∙ append_assoc (map f old) (f x ∷ []) rest ∙ was

pub all_done : {X Y : Type 0} → (f : X → Y) (old : List X) (rest w : List Y) → rest ≡ [] → map f old ++ rest ≡ w → map f old ≡ w
all_done f old rest w e was = sym (append-nil (map f old)) ∙ ap (λ r. map f old ++ r) (sym e) ∙ was
