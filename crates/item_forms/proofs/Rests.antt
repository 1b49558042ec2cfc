-- Rests, counted field by field.
use Rattle.std.proofs.Common.{◌≡◌, ℕ, suc, ◌+◌, ◌<◌, ◌≤◌, List, [], ◌∷◌, map, drop, drop-cons, length, get_or, Bool, true, false, not, refl, sym, ap, ◌∙◌, arith}
use Rattle.std.specs.Prelude.{if◌then◌else◌}
use Rattle.std.proofs.lemmas.List.{drop_all}
use Rattle.container_defs.specs.Container.{ReadField}
use Rattle.container_defs.specs.Forms.{rests, is_empty}
use Rattle.item_forms.specs.declared.beside.Count.{Count}
use Rattle.item_forms.specs.declared.beside.Count.TheVariants.{None, One, Several}
use Rattle.item_forms.specs.Counts.{count_of, one_more}

-- so many, and those of a list
abbrev pub more : {A : Type 0} → Count → List A → Count
more c [] = c
more c (a ∷ xs) = more (one_more c) xs

more_several : {A : Type 0} (xs : List A) → more Several xs ≡ Several
more_several [] = refl
more_several (a ∷ xs) = more_several xs

pub counted : {A : Type 0} (xs : List A) → more None xs ≡ count_of xs
counted [] = refl
counted (a ∷ []) = refl
counted (a ∷ b ∷ xs) = more_several xs

-- ---- field by field, each as it is seen

module _ {X : Type 0} (f : X → ReadField) (xs : List X) (k : ℕ) (x : X) (h : k < length xs) (e : x ≡ get_or xs k x) where
  next : (b : Bool) → (f x).attrs.flatten ≡ b → rests (map f (drop k xs)) ≡ (if b then f x ∷ rests (map f (drop (k + 1) xs)) else rests (map f (drop (k + 1) xs)))
  next b q =
      let later : suc k ≡ k + 1 = omega arith in
      ap (λ ys. rests (map f ys)) (drop-cons xs k x h)
      ∙ ap (λ y. rests (map f (y ∷ drop (suc k) xs))) (sym e)
      ∙ ap (λ a. if a then f x ∷ rests (map f (drop (suc k) xs)) else rests (map f (drop (suc k) xs))) q
      ∙ ap (λ m. if b then f x ∷ rests (map f (drop m xs)) else rests (map f (drop m xs))) later

  pub plain_turn : (c w : Count) → (f x).attrs.flatten ≡ false → more c (rests (map f (drop k xs))) ≡ w → more c (rests (map f (drop (k + 1) xs))) ≡ w
  plain_turn c w q was = ap (more c) (sym (next false q)) ∙ was

  pub rest_turn : (c w : Count) → (f x).attrs.flatten ≡ true → more c (rests (map f (drop k xs))) ≡ w → more (one_more c) (rests (map f (drop (k + 1) xs))) ≡ w
  rest_turn c w q was = ap (more c) (sym (next true q)) ∙ was

pub count_end : {X : Type 0} (f : X → ReadField) (xs : List X) (k : ℕ) (c w : Count) → length xs ≤ k → more c (rests (map f (drop k xs))) ≡ w → c ≡ w
count_end f xs k c w h was = ap (λ ys. more c (rests (map f ys))) (sym (drop_all k xs h)) ∙ was

pub none_counted : {A : Type 0} (xs : List A) → None ≡ count_of xs → false ≡ not (is_empty xs)
none_counted [] e = refl
none_counted (a ∷ []) e = cc
none_counted (a ∷ b ∷ xs) e = cc

pub one_counted : {A : Type 0} (xs : List A) → One ≡ count_of xs → true ≡ not (is_empty xs)
one_counted [] e = cc
one_counted (a ∷ xs) e = refl

pub several_counted : {A : Type 0} (xs : List A) → Several ≡ count_of xs → true ≡ not (is_empty xs)
several_counted [] e = cc
several_counted (a ∷ xs) e = refl
