-- Types beside one another, place by place.
use Rattle.std.proofs.Common.{◌≡◌, ℕ, suc, ◌+◌, ◌<◌, ◌≤◌, ◌&&◌, List, [], ◌∷◌, map, drop, drop-cons, length, get_or, Bool, true, false, refl, sym, ap, ◌∙◌, arith}
use Rattle.std.proofs.lemmas.List.{drop_all}
use Rattle.model_defs.specs.Types.{types}
use Rattle.value_models.specs.TypeView.{type_view, types_view}
use Rattle.value_models.specs.declared.value_type.ValueType.{ValueType}
use Rattle.container_defs.specs.Forms.{same_type, same_types}

abbrev pub same_parts : List ValueType → List ValueType → Bool
same_parts xs ys = same_types (types (types_view xs)) (types (types_view ys))

and_none : (a b : Bool) → false ≡ b → false ≡ (a && b)
and_none true b h = h
and_none false b h = refl

longer : (x y : ValueType) (xs ys : List ValueType) → length xs ≡ length ys → length (x ∷ xs) ≡ length (y ∷ ys)
longer x y xs ys e = omega arith

pub of_other_lengths : (xs ys : List ValueType) → (length xs ≡ length ys → ⊥) → false ≡ same_parts xs ys
of_other_lengths [] [] h = absurd (h refl)
of_other_lengths [] (b ∷ ys) h = refl
of_other_lengths (a ∷ xs) [] h = refl
of_other_lengths (a ∷ xs) (b ∷ ys) h = and_none (same_type (type_view a) (type_view b)) (same_parts xs ys) (of_other_lengths xs ys (λ e. h (longer a b xs ys e)))

module _ (xs ys : List ValueType) (k : ℕ) (a b : ValueType) (h : k < length xs) (g : k < length ys) (e : a ≡ get_or xs k a) (f : b ≡ get_or ys k b) where
  next : same_parts (drop k xs) (drop k ys) ≡ (same_type (type_view a) (type_view b) && same_parts (drop (k + 1) xs) (drop (k + 1) ys))
  next =
      let later : suc k ≡ k + 1 = omega arith in
      ap (λ xs. same_parts xs (drop k ys)) (drop-cons xs k a h)
      ∙ ap (λ ys. same_parts (get_or xs k a ∷ drop (suc k) xs) ys) (drop-cons ys k b g)
      ∙ ap (λ x. same_type (type_view x) (type_view (get_or ys k b)) && same_parts (drop (suc k) xs) (drop (suc k) ys)) (sym e)
      ∙ ap (λ y. same_type (type_view a) (type_view y) && same_parts (drop (suc k) xs) (drop (suc k) ys)) (sym f)
      ∙ ap (λ m. same_type (type_view a) (type_view b) && same_parts (drop m xs) (drop m ys)) later

  pub same_turn : (w : Bool) → same_type (type_view a) (type_view b) ≡ true → same_parts (drop k xs) (drop k ys) ≡ w → same_parts (drop (k + 1) xs) (drop (k + 1) ys) ≡ w
  same_turn w q was = ap (λ c. c && same_parts (drop (k + 1) xs) (drop (k + 1) ys)) (sym q) ∙ sym next ∙ was

  pub other_turn : (w : Bool) → same_type (type_view a) (type_view b) ≡ false → same_parts (drop k xs) (drop k ys) ≡ w → false ≡ w
  other_turn w q was = ap (λ c. c && same_parts (drop (k + 1) xs) (drop (k + 1) ys)) (sym q) ∙ sym next ∙ was

pub parts_end : (xs ys : List ValueType) (k : ℕ) (w : Bool) → length xs ≤ k → length ys ≤ k → same_parts (drop k xs) (drop k ys) ≡ w → true ≡ w
parts_end xs ys k w h g was = ap (λ zs. same_parts [] zs) (sym (drop_all k ys g)) ∙ ap (λ zs. same_parts zs (drop k ys)) (sym (drop_all k xs h)) ∙ was
