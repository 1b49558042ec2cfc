-- What a loop keeps of a list, one element after another.
use Rattle.std.proofs.Common.{◌≡◌, ℕ, ◌+◌, ◌<◌, ◌≤◌, List, [], ◌∷◌, ◌++◌, drop, length, get_or, append_assoc, append-nil, Bool, true, false, ◌&&◌, cond, sym, ap, ◌∙◌}
use Rattle.std.specs.Prelude.{filter}
use Rattle.std.proofs.lemmas.List.{drop_all, drop_more}
use Rattle.schema_defs.specs.declared.InstanceType.{InstanceType}
use Rattle.merge_defs.specs.Leaves.{names_type}

-- what is left is an element, and what is left after it
pub kept : {Y : Type 0} → (p : Y → Bool) (y : Y) (left rest old new w : List Y) → left ≡ y ∷ rest → p y ≡ true → new ≡ old ++ y ∷ []
    → old ++ filter p left ≡ w → new ++ filter p rest ≡ w
kept p y left rest old new w e h made was =
    ap (λ ys. ys ++ filter p rest) made ∙ append_assoc old (y ∷ []) (filter p rest)
    ∙ ap (λ b. old ++ cond b (y ∷ filter p rest) (filter p rest)) (sym h) ∙ ap (λ ys. old ++ filter p ys) (sym e) ∙ was

pub left_out : {Y : Type 0} → (p : Y → Bool) (y : Y) (left rest old w : List Y) → left ≡ y ∷ rest → p y ≡ false
    → old ++ filter p left ≡ w → old ++ filter p rest ≡ w
left_out p y left rest old w e h was = ap (λ b. old ++ cond b (y ∷ filter p rest) (filter p rest)) (sym h) ∙ ap (λ ys. old ++ filter p ys) (sym e) ∙ was

pub no_more : {Y : Type 0} → (p : Y → Bool) (left old w : List Y) → left ≡ [] → old ++ filter p left ≡ w → old ≡ w
no_more p left old w e was = sym (append-nil old) ∙ ap (λ ys. old ++ filter p ys) (sym e) ∙ was

-- ---- types

abbrev both : List InstanceType → List InstanceType → InstanceType → Bool
both ks ls k = names_type ks k && names_type ls k

module _ (ks ls xs : List InstanceType) (i : ℕ) where
  pub kind_kept : (x : InstanceType) (old new w : List InstanceType) → i < length xs → x ≡ get_or xs i x → (names_type ks x && names_type ls x) ≡ true → new ≡ old ++ x ∷ []
      → old ++ filter (λ k. names_type ks k && names_type ls k) (drop i xs) ≡ w → new ++ filter (λ k. names_type ks k && names_type ls k) (drop (i + 1) xs) ≡ w
  kind_kept x old new w l e h made was = kept (both ks ls) x (drop i xs) (drop (i + 1) xs) old new w (drop_more xs i x l ∙ ap (λ y. y ∷ drop (i + 1) xs) (sym e)) h made was

  pub kind_left : (x : InstanceType) (old w : List InstanceType) → i < length xs → x ≡ get_or xs i x → (names_type ks x && names_type ls x) ≡ false
      → old ++ filter (λ k. names_type ks k && names_type ls k) (drop i xs) ≡ w → old ++ filter (λ k. names_type ks k && names_type ls k) (drop (i + 1) xs) ≡ w
  kind_left x old w l e h was = left_out (both ks ls) x (drop i xs) (drop (i + 1) xs) old w (drop_more xs i x l ∙ ap (λ y. y ∷ drop (i + 1) xs) (sym e)) h was

  pub kinds_end : (old w : List InstanceType) → length xs ≤ i → old ++ filter (λ k. names_type ks k && names_type ls k) (drop i xs) ≡ w → old ≡ w
  kinds_end old w h was = no_more (both ks ls) (drop i xs) old w (drop_all i xs h) was
