-- Models of containers, one after another.
use Rattle.std.proofs.Common.{◌≡◌, ℕ, suc, ◌+◌, ◌<◌, ◌≤◌, List, [], ◌∷◌, ◌++◌, map, drop, drop-cons, length, get_or, sym, ap, ◌∙◌, append_assoc, arith}
use Rattle.std.proofs.lemmas.List.{drop_all, append-nil, map-append}

module _ {X Y A Z : Type 0} (view : X → Y) (model : Y → Z) (seen : A → Z) (xs : List X) (k : ℕ) where
  abbrev pub left : ℕ → List Z
  left n = map model (map view (drop n xs))

  pub modelled_on : (x : X) (old new : List A) (a : A) (whole : List Z) → k < length xs → x ≡ get_or xs k x → new ≡ old ++ a ∷ [] → seen a ≡ model (view x)
      → map seen old ++ left k ≡ whole → map seen new ++ left (k + 1) ≡ whole
  modelled_on x old new a whole h e n r was =
      let later : suc k ≡ k + 1 = omega arith in
      ap (λ l. map seen l ++ left (k + 1)) n
      ∙ ap (λ l. l ++ left (k + 1)) (map-append seen old (a ∷ []))
      ∙ append_assoc (map seen old) (seen a ∷ []) (left (k + 1))
      ∙ ap (λ z. map seen old ++ z ∷ left (k + 1)) r
      ∙ ap (λ l. map seen old ++ l) (sym (ap (λ ys. map model (map view ys)) (drop-cons xs k x h) ∙ (λ i. model (view (sym e i)) ∷ left (later i))))
      ∙ was

  pub all_modelled : (done : List A) (whole : List Z) → length xs ≤ k → map seen done ++ left k ≡ whole → map seen done ≡ whole
  all_modelled done whole h was = sym (append-nil (map seen done)) ∙ ap (λ ys. map seen done ++ map model (map view ys)) (sym (drop_all k xs h)) ∙ was
