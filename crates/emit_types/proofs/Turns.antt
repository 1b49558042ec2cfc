-- One element of a list after another, each giving some of what is made.
use Rattle.std.proofs.Common.{◌≡◌, ℕ, suc, ◌+◌, ◌<◌, ◌≤◌, List, [], ◌∷◌, ◌++◌, map, drop, length, get_or, drop-cons, append_assoc, append-nil, refl, sym, ap, ◌∙◌, arith}
use Rattle.std.proofs.lemmas.List.{drop_all, map-append}

pub mapped_drop : {X Y : Type 0} (f : X → Y) (xs : List X) (i : ℕ) (x : X) → i < length xs → x ≡ get_or xs i x → map f (drop i xs) ≡ f x ∷ map f (drop (i + 1) xs)
mapped_drop f xs i x h e =
    ap (map f) (drop-cons xs i x h) ∙ ap (λ y. f y ∷ map f (drop (suc i) xs)) (sym e) ∙ ap (λ n. f x ∷ map f (drop n xs)) (let k : suc i ≡ i + 1 = omega arith in k)

-- one more, as it is seen
pub pushed : {X Z : Type 0} (v : X → Z) (old new : List X) (x : X) (z : Z) → new ≡ old ++ x ∷ [] → v x ≡ z → map v new ≡ map v old ++ z ∷ []
pushed v old new x z e s = ap (map v) e ∙ map-append v old (x ∷ []) ∙ ap (λ y. map v old ++ y ∷ []) s

-- `n` is what is counted on the way, as the place
module _ {X Y Z : Type 0} (f : X → Y) (first : ℕ → Y → List Z) (after : ℕ → Y → ℕ) (all : ℕ → List Y → List Z)
    (none : (n : ℕ) → all n [] ≡ []) (more : (n : ℕ) (y : Y) (ys : List Y) → all n (y ∷ ys) ≡ first n y ++ all (after n y) ys) where
  pub turn : (xs : List X) (i n m : ℕ) (x : X) (old new w : List Z) → i < length xs → x ≡ get_or xs i x → new ≡ old ++ first n (f x) → m ≡ after n (f x)
      → old ++ all n (map f (drop i xs)) ≡ w → new ++ all m (map f (drop (i + 1) xs)) ≡ w
  turn xs i n m x old new w h e made counted was =
      let rest = map f (drop (i + 1) xs) in
      ap (λ z. z ++ all m rest) made
      ∙ append_assoc old (first n (f x)) (all m rest)
      ∙ ap (λ k. old ++ (first n (f x) ++ all k rest)) counted
      ∙ ap (λ z. old ++ z) (sym (more n (f x) rest))
      ∙ ap (λ z. old ++ all n z) (sym (mapped_drop f xs i x h e))
      ∙ was

  pub end : (xs : List X) (i n : ℕ) (old w : List Z) → length xs ≤ i → old ++ all n (map f (drop i xs)) ≡ w → old ≡ w
  end xs i n old w h was = sym (append-nil old) ∙ ap (λ z. old ++ z) (sym (none n)) ∙ ap (λ z. old ++ all n (map f z)) (sym (drop_all i xs h)) ∙ was

-- where nothing is counted
module _ {X Y Z : Type 0} (f : X → Y) (first : Y → List Z) (all : List Y → List Z) (none : all [] ≡ []) (more : (y : Y) (ys : List Y) → all (y ∷ ys) ≡ first y ++ all ys) where
  pub step : (xs : List X) (i : ℕ) (x : X) (old new w : List Z) → i < length xs → x ≡ get_or xs i x → new ≡ old ++ first (f x)
      → old ++ all (map f (drop i xs)) ≡ w → new ++ all (map f (drop (i + 1) xs)) ≡ w
  step xs i x old new w h e made was = turn f (λ n y. first y) (λ n y. n) (λ n ys. all ys) (λ n. none) (λ n y ys. more y ys) xs i 0 0 x old new w h e made refl was

  pub last : (xs : List X) (i : ℕ) (old w : List Z) → length xs ≤ i → old ++ all (map f (drop i xs)) ≡ w → old ≡ w
  last xs i old w h was = end f (λ n y. first y) (λ n y. n) (λ n ys. all ys) (λ n. none) (λ n y ys. more y ys) xs i 0 old w h was
