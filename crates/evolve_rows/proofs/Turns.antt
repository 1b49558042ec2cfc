-- Turns of loops that fill a list from a list.
use Rattle.std.proofs.Common.{◌≡◌, ℕ, suc, ◌+◌, ◌<◌, ◌≤◌, List, [], ◌∷◌, ◌++◌, map, drop, drop-cons, length, get_or, sym, ap, ◌∙◌, append_assoc, arith}
use Rattle.std.proofs.lemmas.List.{drop_all, append-nil, map-append}

mapped_next : {X Z : Type 0} → (f : X → Z) (xs : List X) (i : ℕ) (d : X) → i < length xs → map f (drop i xs) ≡ f (get_or xs i d) ∷ map f (drop (i + 1) xs)
mapped_next f xs i d h =
    ap (map f) (drop-cons xs i d h) ∙ ap (λ n. f (get_or xs i d) ∷ map f (drop n xs)) (let k : suc i ≡ i + 1 = omega arith in k)

module _ {X Y Z : Type 0} (f : X → Z) (g : Y → Z) (xs : List X) (i : ℕ) where
  -- one more is put behind those that are there
  pub put_turn : (d : X) (y : Y) (old new : List Y) (w : List Z) → i < length xs → new ≡ old ++ y ∷ [] → g y ≡ f (get_or xs i d)
      → map g old ++ map f (drop i xs) ≡ w → map g new ++ map f (drop (i + 1) xs) ≡ w
  put_turn d y old new w h n e was =
      let rest = map f (drop (i + 1) xs) in
      ap (λ ys. map g ys ++ rest) n
      ∙ ap (λ zs. zs ++ rest) (map-append g old (y ∷ []))
      ∙ append_assoc (map g old) (g y ∷ []) rest
      ∙ ap (λ z. map g old ++ z ∷ rest) e
      ∙ ap (λ zs. map g old ++ zs) (sym (mapped_next f xs i d h))
      ∙ was

  pub put_end : (old : List Y) (w : List Z) → length xs ≤ i → map g old ++ map f (drop i xs) ≡ w → map g old ≡ w
  put_end old w h was = sym (append-nil (map g old)) ∙ ap (λ ys. map g old ++ map f ys) (sym (drop_all i xs h)) ∙ was
