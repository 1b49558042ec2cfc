-- Of ten keywords that are read together the fifth and the eighth matter.
use Rattle.std.proofs.Common.{Option, Some}
use Rattle.schema_defs.specs.Read.{◌⊛◌}
use Rattle.schema_laws.proofs.Options.{IfThere, taken, passed, passed3}

-- what is asked of the keywords from the eighth on, and from the fifth on
abbrev FromEighth : {A B C D : Type 0} → (A → Type 0) → (D → Type 0) → (A → B → C → D) → Type 0
FromEighth {A} {B} {C} {D} R Q k = (a : A) → R a → (b : B) (c : C) → Q (k a b c)

abbrev FromFifth : {A B C D E F G : Type 0} → (A → Type 0) → (D → Type 0) → (G → Type 0) → (A → B → C → D → E → F → G) → Type 0
FromFifth {A} {B} {C} {D} {E} {F} {G} P R Q k = (a : A) → P a → (b : B) (c : C) → FromEighth R Q (k a b c)

module _ {A1 A2 A3 A4 A5 A6 A7 A8 A9 A10 B : Type 0} (P : A5 → Type 0) (R : A8 → Type 0) (Q : B → Type 0) (x1 : Option A1) (x2 : Option A2) (x3 : Option A3) (x4 : Option A4) (x5 : Option A5) (x6 : Option A6) (x7 : Option A7)
    (x8 : Option A8) (x9 : Option A9) (x10 : Option A10) (g : A1 → A2 → A3 → A4 → A5 → A6 → A7 → A8 → A9 → A10 → B) where
  first-four : ((a : A1) (b : A2) (c : A3) (e : A4) → FromFifth P R Q (g a b c e)) → IfThere (λ (k : A5 → A6 → A7 → A8 → A9 → A10 → B). FromFifth P R Q k) (Some g ⊛ x1 ⊛ x2 ⊛ x3 ⊛ x4)
  first-four h =
      passed (λ (k : A5 → A6 → A7 → A8 → A9 → A10 → B). FromFifth P R Q k) (Some g ⊛ x1 ⊛ x2 ⊛ x3) x4
      (passed3 (λ (k : A4 → A5 → A6 → A7 → A8 → A9 → A10 → B). (a : A4) → FromFifth P R Q (k a)) (Some g) x1 x2 x3 h)

  first-seven : IfThere (λ (k : A5 → A6 → A7 → A8 → A9 → A10 → B). FromFifth P R Q k) (Some g ⊛ x1 ⊛ x2 ⊛ x3 ⊛ x4) → IfThere P x5
      → IfThere (λ (k : A8 → A9 → A10 → B). FromEighth R Q k) (Some g ⊛ x1 ⊛ x2 ⊛ x3 ⊛ x4 ⊛ x5 ⊛ x6 ⊛ x7)
  first-seven h p =
      passed (λ (k : A8 → A9 → A10 → B). FromEighth R Q k) (Some g ⊛ x1 ⊛ x2 ⊛ x3 ⊛ x4 ⊛ x5 ⊛ x6) x7
      (passed (λ (k : A7 → A8 → A9 → A10 → B). (a : A7) → FromEighth R Q (k a)) (Some g ⊛ x1 ⊛ x2 ⊛ x3 ⊛ x4 ⊛ x5) x6
      (taken P (λ (k : A6 → A7 → A8 → A9 → A10 → B). (a : A6) (b : A7) → FromEighth R Q (k a b)) (Some g ⊛ x1 ⊛ x2 ⊛ x3 ⊛ x4) x5 h p))

  all-ten : IfThere (λ (k : A8 → A9 → A10 → B). FromEighth R Q k) (Some g ⊛ x1 ⊛ x2 ⊛ x3 ⊛ x4 ⊛ x5 ⊛ x6 ⊛ x7) → IfThere R x8 → IfThere Q (Some g ⊛ x1 ⊛ x2 ⊛ x3 ⊛ x4 ⊛ x5 ⊛ x6 ⊛ x7 ⊛ x8 ⊛ x9 ⊛ x10)
  all-ten h r =
      passed Q (Some g ⊛ x1 ⊛ x2 ⊛ x3 ⊛ x4 ⊛ x5 ⊛ x6 ⊛ x7 ⊛ x8 ⊛ x9) x10
      (passed (λ (k : A10 → B). (c : A10) → Q (k c)) (Some g ⊛ x1 ⊛ x2 ⊛ x3 ⊛ x4 ⊛ x5 ⊛ x6 ⊛ x7 ⊛ x8) x9
      (taken R (λ (k : A9 → A10 → B). (b : A9) (c : A10) → Q (k b c)) (Some g ⊛ x1 ⊛ x2 ⊛ x3 ⊛ x4 ⊛ x5 ⊛ x6 ⊛ x7) x8 h r))

  pub fifth-and-eighth : ((a : A1) (b : A2) (c : A3) (e : A4) (u : A5) → P u → (w : A6) (y : A7) (m : A8) → R m → (s : A9) (q : A10) → Q (g a b c e u w y m s q)) → IfThere P x5 → IfThere R x8
      → IfThere Q (Some g ⊛ x1 ⊛ x2 ⊛ x3 ⊛ x4 ⊛ x5 ⊛ x6 ⊛ x7 ⊛ x8 ⊛ x9 ⊛ x10)
  fifth-and-eighth h p r = all-ten (first-seven (first-four h) p) r
