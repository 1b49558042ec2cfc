-- A number of each schema above those of the schemas that its kinds are made of: its members of allOf, anyOf and oneOf, and the target of its reference.
use Rattle.std.proofs.Common.{◌≡◌, ℕ, zero, suc, ◌≤◌, ◌<◌, ◌+◌, length, List, [], ◌∷◌, Option, Some, None, Bool, true, false, option_and_then, refl, ap, sym, subst, ◌∙◌, arith}
use Rattle.schema_defs.specs.Schema.{Schema, Document, object, boolean, Same, Plain, Lists, Named, MaybeSchemas, Schemas, no_same, same_value, no_list, the_list, no_more, schema}
use Rattle.schema_defs.specs.Admits.{target, allowed}
use Rattle.std.specs.Prelude.{if◌then◌else◌}
use Rattle.schema_defs.specs.Walks.{IsGuarded}
use Rattle.schema_defs.specs.Children.{reference_of}
use Rattle.schema_defs.proofs.Spare.{Given, Refs, RefsSame, RefsLists, RefsAll, Refs-weaker, Ends}
use Rattle.schema_defs.proofs.Guarded.{all_end}
use Rattle.enum_defs.specs.Exclusive.{refers_at_most, reference_alone}
use Rattle.enum_defs.proofs.Tests.{none-some}

abbrev or_zero : {A : Type 0} → (A → ℕ) → Option A → ℕ
or_zero f None = 0
or_zero f (Some x) = f x

module _ (far : List ℕ → ℕ) where
  abbrev mutual
    pub weight_at : Schema → ℕ
    weight_at (boolean b) = 1
    weight_at (object p ss ls ns) = 1 + or_zero far p.reference + same_weight ss

    pub same_weight : Same → ℕ
    same_weight no_same = 0
    same_weight (same_value all any one none conditional) = 1 + list_weight all + list_weight any + list_weight one

    pub list_weight : MaybeSchemas → ℕ
    list_weight no_list = 0
    list_weight (the_list ss) = 3 + all_weight ss

    pub all_weight : Schemas → ℕ
    all_weight no_more = 0
    all_weight (schema s ss) = weight_at s + all_weight ss

module _ (f g : List ℕ → ℕ) where
  abbrev Agree : List ℕ → Type 0
  Agree q = f q ≡ g q

  given : (o : Option (List ℕ)) → Given Agree o → or_zero f o ≡ or_zero g o
  given None h = refl
  given (Some q) h = h

  mutual
    weights-agree : (s : Schema) → Refs Agree s → weight_at f s ≡ weight_at g s
    weights-agree (boolean b) h = refl
    weights-agree (object p ss ls ns) h = λ i. 1 + given p.reference h.0 i + same-agree ss h.1 i

    same-agree : (ss : Same) → RefsSame Agree ss → same_weight f ss ≡ same_weight g ss
    same-agree no_same h = refl
    same-agree (same_value all any one none conditional) h = λ i. 1 + list-agree all h.0 i + list-agree any h.1 i + list-agree one h.2 i

    list-agree : (m : MaybeSchemas) → RefsLists Agree m → list_weight f m ≡ list_weight g m
    list-agree no_list h = refl
    list-agree (the_list ss) h = λ i. 3 + all-agree ss h i

    all-agree : (ss : Schemas) → RefsAll Agree ss → all_weight f ss ≡ all_weight g ss
    all-agree no_more h = refl
    all-agree (schema s ss) h = λ i. weights-agree s h.0 i + all-agree ss h.1 i

module _ (d : Document) where
  abbrev pub far_within : ℕ → List ℕ → ℕ
  far_within zero q = 0
  far_within (suc n) q = or_zero (weight_at (far_within n)) (target d q)

  abbrev weight_within : ℕ → Schema → ℕ
  weight_within n s = weight_at (far_within n) s

  -- where as many references may be followed as admission follows
  abbrev pub far : List ℕ → ℕ
  far = far_within (allowed d)

  abbrev pub weight : Schema → ℕ
  weight s = weight_at far s

  follow-same : (n m : ℕ) → ((s : Schema) → Ends d n s → weight_within n s ≡ weight_within m s) → (o : Option Schema) → Given (Ends d n) o → or_zero (weight_within n) o ≡ or_zero (weight_within m) o
  follow-same n m k None h = refl
  follow-same n m k (Some s) h = k s h

  spare : (n m : ℕ) → n ≤ m → (s : Schema) → Ends d n s → weight_within n s ≡ weight_within m s
  spare zero zero h s e = refl
  spare zero (suc m) h s e = weights-agree (far_within zero) (far_within (suc m)) s (Refs-weaker _ _ (λ q k. ap (or_zero (weight_within m)) (sym k)) s e)
  spare (suc n) zero h s e = absurd (omega arith)
  spare (suc n) (suc m) h s e = weights-agree (far_within (suc n)) (far_within (suc m)) s (Refs-weaker _ _ (λ q k. follow-same n m (spare n m (omega arith)) (target d q) k) s e)

  -- the target of a reference weighs less than the schema that holds it
  pub object-lighter : IsGuarded d → (p : Plain) (ss : Same) (ls : Lists) (ns : Named) (q : List ℕ) (t : Schema) → p.reference ≡ Some q → target d q ≡ Some t → weight t < weight (object p ss ls ns)
  object-lighter g p ss ls ns q t e f =
      let n = length d.definitions in
      let ends = at p.reference e ((all_end d g (object p ss ls ns)).0) in
      let there = subst (λ o. Given (Ends d n) o) f ends in
      let same = spare n (suc n) (omega arith) t there in
      let is = ap (or_zero far) e ∙ ap (or_zero (weight_within n)) f ∙ same in
      omega arith
    where
      at : (o : Option (List ℕ)) → o ≡ Some q → Given (λ q. Given (Ends d (length d.definitions)) (target d q)) o → Given (Ends d (length d.definitions)) (target d q)
      at o e h = subst (λ o. Given (λ q. Given (Ends d (length d.definitions)) (target d q)) o) e h

  pub target-lighter : IsGuarded d → (s : Schema) (q : List ℕ) (t : Schema) → reference_of s ≡ Some q → target d q ≡ Some t → weight t < weight s
  target-lighter g (boolean b) q t e f = none-some q e
  target-lighter g (object p ss ls ns) q t e f = object-lighter g p ss ls ns q t e f

  pub alone-lighter : IsGuarded d → (s t : Schema) → option_and_then (target d) (reference_alone s) ≡ Some t → weight t < weight s
  alone-lighter g s t h = by (refers_at_most s) (reference_of s) refl h
    where
      by : (b : Bool) (o : Option (List ℕ)) → reference_of s ≡ o → option_and_then (target d) (if b then o else None) ≡ Some t → weight t < weight s
      by true None e h = none-some t h
      by true (Some q) e h = target-lighter g s q t e h
      by false o e h = none-some t h

  -- its members weigh less than a list of allOf, anyOf or oneOf
  pub subschemas-lighter : (p : Plain) (ss : Same) (ls : Lists) (ns : Named) → same_weight far ss < weight (object p ss ls ns)
  subschemas-lighter p ss ls ns = omega arith
