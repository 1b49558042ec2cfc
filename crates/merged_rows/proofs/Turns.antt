-- Notes that a loop places, one after the other.
use Rattle.std.proofs.Common.{◌≡◌, ℕ, ◌+◌, ◌<◌, ◌≤◌, List, [], ◌∷◌, ◌++◌, map, drop, length, get_or, sym, ap, ◌∙◌, append_assoc, append-nil}
use Rattle.std.proofs.lemmas.List.{drop_all, drop_more}

module _ {X Y Z : Type 0} (f : X → Y) (g : Y → Z) (xs : List X) (i : ℕ) where
  pub placed_turn : (d : X) (old new w : List Z) → i < length xs → new ≡ old ++ g (f (get_or xs i d)) ∷ [] → old ++ map g (map f (drop i xs)) ≡ w → new ++ map g (map f (drop (i + 1) xs)) ≡ w
  placed_turn d old new w h e was =
      ap (λ zs. zs ++ map g (map f (drop (i + 1) xs))) e ∙ append_assoc old (g (f (get_or xs i d)) ∷ []) (map g (map f (drop (i + 1) xs)))
      ∙ ap (λ ys. old ++ map g (map f ys)) (sym (drop_more xs i d h)) ∙ was

  pub placed_end : (old first : List Z) (all : List X) → length xs ≤ i → xs ≡ all → old ++ map g (map f (drop i xs)) ≡ first ++ map g (map f xs) → old ≡ first ++ map g (map f all)
  placed_end old first all h e was = sym (append-nil old) ∙ ap (λ ys. old ++ map g (map f ys)) (sym (drop_all i xs h)) ∙ was ∙ ap (λ ys. first ++ map g (map f ys)) e
