-- Filtered lists, item by item.
use Rattle.std.proofs.Common.{◌≡◌, ℕ, suc, ◌+◌, ◌<◌, ◌≤◌, ◌||◌, List, [], ◌∷◌, map, drop, drop-cons, length, get_or, Bool, true, false, not, Some, None, refl, sym, ap, ◌∙◌, arith}
use Rattle.std.specs.Prelude.{filter, if◌then◌else◌}
use Rattle.std.specs.List.{list_any}
use Rattle.std.proofs.lemmas.List.{drop_all}
use Rattle.container_defs.specs.declared.style.Style.TheVariants.{Newtype}
use Rattle.container_defs.specs.Checks.{is_one}
use Rattle.container_defs.specs.Container.{ReadField, ReadContainer, read_struct}
use Rattle.container_defs.specs.Forms.{is_empty, newtype_type, is_text, same_type, fails}
use Rattle.model_defs.specs.Types.{TypeModel, outside_type}
use Rattle.syntax_trees.specs.Syntax.{TyD}
use Rattle.model_defs.specs.Model.{ConversionsD}
use Rattle.item_causes.specs.Newtypes.{converted, odd_try_from}
use Rattle.same_types.proofs.Outside.{outside_is_none}

-- whether one is left, where some was found or none
abbrev pub one_left : {A : Type 0} → Bool → List A → Bool
one_left true xs = is_empty xs
one_left false xs = is_one xs

first_is_one : {A : Type 0} (a : A) (xs : List A) → is_one (a ∷ xs) ≡ is_empty xs
first_is_one a [] = refl
first_is_one a (b ∷ xs) = refl

none_left : (A : Type 0) (found : Bool) → one_left {A = A} found [] ≡ found
none_left A true = refl
none_left A false = refl

module _ {X Y : Type 0} (f : X → Y) (test : Y → Bool) where
  abbrev pub left_of : List X → List Y
  left_of xs = filter test (map f xs)

  module _ (xs : List X) (k : ℕ) (x : X) (h : k < length xs) (e : x ≡ get_or xs k x) where
    next : (b : Bool) → test (f x) ≡ b → left_of (drop k xs) ≡ (if b then f x ∷ left_of (drop (k + 1) xs) else left_of (drop (k + 1) xs))
    next b q =
        let later : suc k ≡ k + 1 = omega arith in
        ap left_of (drop-cons xs k x h)
        ∙ ap (λ y. left_of (y ∷ drop (suc k) xs)) (sym e)
        ∙ ap (λ a. if a then f x ∷ left_of (drop (suc k) xs) else left_of (drop (suc k) xs)) q
        ∙ ap (λ m. if b then f x ∷ left_of (drop m xs) else left_of (drop m xs)) later

    pub passed : (found w : Bool) → test (f x) ≡ false → one_left found (left_of (drop k xs)) ≡ w → one_left found (left_of (drop (k + 1) xs)) ≡ w
    passed found w q was = ap (one_left found) (sym (next false q)) ∙ was

    pub first : (w : Bool) → test (f x) ≡ true → one_left false (left_of (drop k xs)) ≡ w → one_left true (left_of (drop (k + 1) xs)) ≡ w
    first w q was = sym (first_is_one (f x) (left_of (drop (k + 1) xs))) ∙ ap (one_left false) (sym (next true q)) ∙ was

    pub second : (w : Bool) → test (f x) ≡ true → one_left true (left_of (drop k xs)) ≡ w → false ≡ w
    second w q was = ap (one_left true) (sym (next true q)) ∙ was

    module _ (holds : Y → Bool) where
      pub other_turn : (w : Bool) → test (f x) ≡ false → list_any holds (left_of (drop k xs)) ≡ w → list_any holds (left_of (drop (k + 1) xs)) ≡ w
      other_turn w q was = ap (list_any holds) (sym (next false q)) ∙ was

      pub no_turn : (w : Bool) → test (f x) ≡ true → holds (f x) ≡ false → list_any holds (left_of (drop k xs)) ≡ w → list_any holds (left_of (drop (k + 1) xs)) ≡ w
      no_turn w q r was = ap (λ b. b || list_any holds (left_of (drop (k + 1) xs))) (sym r) ∙ ap (list_any holds) (sym (next true q)) ∙ was

      pub yes_turn : (w : Bool) → test (f x) ≡ true → holds (f x) ≡ true → list_any holds (left_of (drop k xs)) ≡ w → true ≡ w
      yes_turn w q r was = ap (λ b. b || list_any holds (left_of (drop (k + 1) xs))) (sym r) ∙ ap (list_any holds) (sym (next true q)) ∙ was

  pub single_end : (xs : List X) (k : ℕ) (found w : Bool) → length xs ≤ k → one_left found (left_of (drop k xs)) ≡ w → found ≡ w
  single_end xs k found w h was = sym (none_left Y found) ∙ ap (λ ys. one_left found (left_of ys)) (sym (drop_all k xs h)) ∙ was

  pub none_end : (holds : Y → Bool) (xs : List X) (k : ℕ) (w : Bool) → length xs ≤ k → list_any holds (left_of (drop k xs)) ≡ w → false ≡ w
  none_end holds xs k w h was = ap (λ ys. list_any holds (left_of ys)) (sym (drop_all k xs h)) ∙ was

-- ---- newtypes

pub several_are_none : {X : Type 0} (f : X → ReadField) (xs : List X) → 2 ≤ length xs → outside_type ≡ newtype_type (read_struct Newtype (map f xs))
several_are_none f [] h = absurd (omega arith)
several_are_none f (x ∷ []) h = absurd (omega arith)
several_are_none f (x ∷ y ∷ xs) h = refl

-- ---- what is no newtype has no type

pub no_text : (m : TypeModel) → outside_type ≡ m → false ≡ is_text m
no_text m e = ap is_text e

pub text_of : (t m : TypeModel) (b : Bool) → t ≡ m → b ≡ is_text t → b ≡ is_text m
text_of t m b e h = h ∙ ap is_text e

pub not_same : (m t : TypeModel) → outside_type ≡ m → false ≡ same_type m t
not_same m t e = outside_is_none t ∙ ap (λ x. same_type x t) e

pub same_of : (m n t : TypeModel) (b : Bool) → n ≡ m → b ≡ same_type n t → b ≡ same_type m t
same_of m n t b e h = h ∙ ap (λ x. same_type x t) e

-- ---- what is read as another type

pub converts_otherwise : (k : ConversionsD) (c : ReadContainer) (t : TyD) (b : Bool) → Some t ≡ c.attrs.type_try_from → b ≡ converted k c t → not b ≡ odd_try_from k c
converts_otherwise k c t b e h = ap not h ∙ ap (fails (converted k c)) e

pub converts_none : (k : ConversionsD) (c : ReadContainer) → None ≡ c.attrs.type_try_from → false ≡ odd_try_from k c
converts_none k c e = ap (fails (converted k c)) e
