-- Schemas that are told apart admit no value both; keywords of texts that are the same.
use Rattle.std.proofs.Common.{◌≡◌, ℕ, suc, List, [], ◌∷◌, Bool, true, false, ◌&&◌, ◌||◌, Option, Some, None, refl, ap, ◌∙◌, arith, bytes_eq}
use Rattle.std.specs.Prelude.{if◌then◌else◌, nat_eq}
use Rattle.std.specs.Cmp.Lexicographic.{pointwise}
use Rattle.std.proofs.lemmas.Bool.Decides.{Decides-eqb}
use Rattle.std.proofs.lemmas.Slice.Eq.{bytes_eq-Decides}
use Rattle.json_value.specs.Value.{Value}
use Rattle.schema_defs.specs.Texts.{Relations}
use Rattle.schema_defs.specs.Schema.{Texts, Schema, Document}
use Rattle.schema_defs.specs.Admits.{admits}
use Rattle.enum_defs.specs.Kinds.{kinds}
use Rattle.enum_defs.specs.Exclusive.{is_disjoint, shapes_differ, led, are_apart}
use Rattle.enum_defs.specs.Shapes.{object_shape}
use Rattle.enum_defs.proofs.Exclusive.{exclusive_is_sound}
use Rattle.merge_defs.specs.Alike.{same_option, same_texts}
use Rattle.merge_laws.proofs.Steps.{no_no, and-1, and-2}
use Rattle.merge_laws.proofs.Main.{counted}

-- ---- schemas that are apart

module _ (r : Relations) (d : Document) (v : Value) where
  pub apart_sound : (s t : Schema) → are_apart d s t ≡ true → admits r d v s ≡ true → admits r d v t ≡ true → ⊥
  apart_sound s t h a b =
      let least = exclusive_is_sound r d v (s ∷ t ∷ []) (ap (λ x. (x && true) && true) h) in
      let are = counted (admits r d v) (s ∷ t ∷ []) ∙ two (admits r d v s) (admits r d v t) a b in
      omega arith
    where
      two : (x y : Bool) → x ≡ true → y ≡ true → (if x then suc (if y then 1 else 0) else (if y then 1 else 0)) ≡ 2
      two true true e f = refl
      two true false e f = no_no f
      two false y e f = no_no e

  pub disjoint_kinds : (s t : Schema) → is_disjoint (kinds d s) (kinds d t) ≡ true → admits r d v s ≡ true → admits r d v t ≡ true → ⊥
  disjoint_kinds s t h = apart_sound s t (ap (λ x. x || shapes_differ (object_shape (led d s)) (object_shape (led d t))) h)

-- ---- equal texts

pub option_sound : {A : Type 0} (eq : A → A → Bool) → ((a b : A) → eq a b ≡ true → a ≡ b) → (x y : Option A) → same_option eq x y ≡ true → x ≡ y
option_sound eq k None None h = refl
option_sound eq k (Some a) (Some b) h = ap Some (k a b h)
option_sound eq k None (Some b) h = no_no h
option_sound eq k (Some a) None h = no_no h

pub pointwise_sound : {A : Type 0} (eq : A → A → Bool) → ((a b : A) → eq a b ≡ true → a ≡ b) → (xs ys : List A) → pointwise eq xs ys ≡ true → xs ≡ ys
pointwise_sound eq k [] [] h = refl
pointwise_sound eq k (x ∷ xs) (y ∷ ys) h = λ i. k x y (and-1 (eq x y) _ h) i ∷ pointwise_sound eq k xs ys (and-2 (eq x y) _ h) i
pointwise_sound eq k [] (y ∷ ys) h = no_no h
pointwise_sound eq k (x ∷ xs) [] h = no_no h

pub nat_sound : (a b : ℕ) → nat_eq a b ≡ true → a ≡ b
nat_sound a b h = (Decides-eqb a b).0 h

pub texts_sound : (x y : Texts) → same_texts x y ≡ true → x ≡ y
texts_sound x y h =
    let a = and-1 _ (pointwise bytes_eq x.patterns y.patterns) h in
    λ i. record {
      max_length = option_sound nat_eq nat_sound x.max_length y.max_length (and-1 (same_option nat_eq x.max_length y.max_length) _ a) i;
      min_length = option_sound nat_eq nat_sound x.min_length y.min_length (and-2 (same_option nat_eq x.max_length y.max_length) _ a) i;
      patterns = pointwise_sound bytes_eq (λ u w. (bytes_eq-Decides u w).0) x.patterns y.patterns (and-2 _ (pointwise bytes_eq x.patterns y.patterns) h) i;
    }
