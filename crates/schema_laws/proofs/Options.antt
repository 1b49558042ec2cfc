-- What holds of what is there, where it is there.
use Rattle.std.proofs.Common.{◌≡◌, refl, Option, Some, None, option_map, Bool, true, false}
use Rattle.std.specs.Prelude.{option_and_then, if◌then◌else◌}
use Rattle.schema_defs.specs.Read.{◌⊛◌, flat}

abbrev pub IfThere : {A : Type 0} → (A → Type 0) → Option A → Type 0
IfThere P None = Unit {0}
IfThere P (Some x) = P x

pub chosen : {A : Type 0} (P : A → Type 0) (b : Bool) (x y : A) → P x → P y → P (if b then x else y)
chosen P true x y h g = h
chosen P false x y h g = g

pub mapped : {A B : Type 0} (P : A → Type 0) (Q : B → Type 0) (f : A → B) (o : Option A) → IfThere P o → ((x : A) → P x → Q (f x)) → IfThere Q (option_map f o)
mapped P Q f None h g = tt
mapped P Q f (Some x) h g = g x h

pub followed : {A B : Type 0} (P : A → Type 0) (Q : B → Type 0) (f : A → Option B) (o : Option A) → IfThere P o → ((x : A) → P x → IfThere Q (f x)) → IfThere Q (option_and_then f o)
followed P Q f None h g = tt
followed P Q f (Some x) h g = g x h

pub flattened : {A : Type 0} (P : A → Type 0) (o : Option (Option A)) → IfThere (IfThere P) o → IfThere P (flat o)
flattened P None h = tt
flattened P (Some o) h = h

pub turned : {A : Type 0} (P Q : A → Type 0) (o : Option A) → IfThere P o → ((x : A) → P x → Q x) → IfThere Q o
turned P Q None h g = tt
turned P Q (Some x) h g = g x h

pub with_answer : {A : Type 0} (P : A → Type 0) (o : Option A) → ((x : A) → o ≡ Some x → P x) → IfThere P o
with_answer P None h = tt
with_answer P (Some x) h = h x refl

-- ---- functions at values

pub taken : {A B : Type 0} (P : A → Type 0) (Q : B → Type 0) (f : Option (A → B)) (x : Option A) → IfThere (λ g. (a : A) → P a → Q (g a)) f → IfThere P x → IfThere Q (f ⊛ x)
taken P Q f None h p = tt
taken P Q None (Some x) h p = tt
taken P Q (Some g) (Some x) h p = h x p

-- where it doesn't matter what the function is at
pub passed : {A B : Type 0} (Q : B → Type 0) (f : Option (A → B)) (x : Option A) → IfThere (λ g. (a : A) → Q (g a)) f → IfThere Q (f ⊛ x)
passed Q f None h = tt
passed Q None (Some x) h = tt
passed Q (Some g) (Some x) h = h x

pub passed3 : {A B C D : Type 0} (Q : D → Type 0) (f : Option (A → B → C → D)) (x : Option A) (y : Option B) (z : Option C) → IfThere (λ g. (a : A) (b : B) (c : C) → Q (g a b c)) f → IfThere Q (f ⊛ x ⊛ y ⊛ z)
passed3 {A} {B} {C} {D} Q f x y z h =
    passed Q (f ⊛ x ⊛ y) z (passed (λ (g : C → D). (c : C) → Q (g c)) (f ⊛ x) y (passed (λ (g : B → C → D). (b : B) (c : C) → Q (g b c)) f x h))

pub taken2 : {A B D : Type 0} (P : A → Type 0) (R : B → Type 0) (Q : D → Type 0) (f : Option (A → B → D)) (x : Option A) (y : Option B)
    → IfThere (λ g. (a : A) → P a → (b : B) → R b → Q (g a b)) f → IfThere P x → IfThere R y → IfThere Q (f ⊛ x ⊛ y)
taken2 {A} {B} {D} P R Q f x y h p r = taken R Q (f ⊛ x) y (taken P (λ (g : B → D). (b : B) → R b → Q (g b)) f x h p) r

pub taken3 : {A B C D : Type 0} (P : A → Type 0) (R : B → Type 0) (S : C → Type 0) (Q : D → Type 0) (f : Option (A → B → C → D)) (x : Option A) (y : Option B) (z : Option C)
    → IfThere (λ g. (a : A) → P a → (b : B) → R b → (c : C) → S c → Q (g a b c)) f → IfThere P x → IfThere R y → IfThere S z → IfThere Q (f ⊛ x ⊛ y ⊛ z)
taken3 {A} {B} {C} {D} P R S Q f x y z h p r s =
    taken S Q (f ⊛ x ⊛ y) z (taken2 P R (λ (g : C → D). (c : C) → S c → Q (g c)) f x y h p r) s

pub taken4 : {A B C D E : Type 0} (P : A → Type 0) (R : B → Type 0) (S : C → Type 0) (T : D → Type 0) (Q : E → Type 0) (f : Option (A → B → C → D → E)) (x : Option A) (y : Option B) (z : Option C) (u : Option D)
    → IfThere (λ g. (a : A) → P a → (b : B) → R b → (c : C) → S c → (d : D) → T d → Q (g a b c d)) f → IfThere P x → IfThere R y → IfThere S z → IfThere T u → IfThere Q (f ⊛ x ⊛ y ⊛ z ⊛ u)
taken4 {A} {B} {C} {D} {E} P R S T Q f x y z u h p r s t =
    taken T Q (f ⊛ x ⊛ y ⊛ z) u (taken3 P R S (λ (g : D → E). (d : D) → T d → Q (g d)) f x y z h p r s) t

-- of ten the last alone matters
pub tenth : {A1 A2 A3 A4 A5 A6 A7 A8 A9 A B : Type 0} (P : A → Type 0) (Q : B → Type 0) (g : A1 → A2 → A3 → A4 → A5 → A6 → A7 → A8 → A9 → A → B)
    (x1 : Option A1) (x2 : Option A2) (x3 : Option A3) (x4 : Option A4) (x5 : Option A5) (x6 : Option A6) (x7 : Option A7) (x8 : Option A8) (x9 : Option A9) (x : Option A)
    → ((a1 : A1) (a2 : A2) (a3 : A3) (a4 : A4) (a5 : A5) (a6 : A6) (a7 : A7) (a8 : A8) (a9 : A9) (a : A) → P a → Q (g a1 a2 a3 a4 a5 a6 a7 a8 a9 a))
    → IfThere P x → IfThere Q (Some g ⊛ x1 ⊛ x2 ⊛ x3 ⊛ x4 ⊛ x5 ⊛ x6 ⊛ x7 ⊛ x8 ⊛ x9 ⊛ x)
tenth {A1} {A2} {A3} {A4} {A5} {A6} {A7} {A8} {A9} {A} {B} P Q g x1 x2 x3 x4 x5 x6 x7 x8 x9 x h p =
    taken P Q (Some g ⊛ x1 ⊛ x2 ⊛ x3 ⊛ x4 ⊛ x5 ⊛ x6 ⊛ x7 ⊛ x8 ⊛ x9) x
    (passed3 (λ (k : A → B). (a : A) → P a → Q (k a)) (Some g ⊛ x1 ⊛ x2 ⊛ x3 ⊛ x4 ⊛ x5 ⊛ x6) x7 x8 x9
    (passed3 (λ (k : A7 → A8 → A9 → A → B). (a7 : A7) (a8 : A8) (a9 : A9) (a : A) → P a → Q (k a7 a8 a9 a)) (Some g ⊛ x1 ⊛ x2 ⊛ x3) x4 x5 x6
    (passed3 (λ (k : A4 → A5 → A6 → A7 → A8 → A9 → A → B). (a4 : A4) (a5 : A5) (a6 : A6) (a7 : A7) (a8 : A8) (a9 : A9) (a : A) → P a → Q (k a4 a5 a6 a7 a8 a9 a)) (Some g) x1 x2 x3 h)))
    p
