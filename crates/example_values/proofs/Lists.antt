-- The values of types one after another, and of one type so many times.
use Rattle.std.proofs.Common.{◌≡◌, ℕ, suc, ◌+◌, ◌<◌, ◌≤◌, List, [], ◌∷◌, ◌++◌, map, drop, drop-cons, length, get_or, Bool, true, false, ◌||◌, refl, sym, ap, subst, ◌∙◌, append_assoc, length-append, eqb-true, arith}
use Rattle.std.specs.Prelude.{◌==◌, replicate}
use Rattle.std.specs.List.{list_all}
use Rattle.std.proofs.lemmas.List.{drop_all, append-nil, map-append, replicate-append-replicate}
use Rattle.serde_json.specs.declared.value.Value as value'
use Rattle.json_value.specs.Value.{Value}
use Rattle.json_value.specs.View.{kept_view}
use Rattle.model_defs.specs.Types.{TypeModel}
use Rattle.model_defs.specs.Model.{ContainerModel, ConversionsD}
use Rattle.model_defs.specs.Layer.{one_type}
use Rattle.value_models.specs.declared.value_type.ValueType.{ValueType}
use Rattle.value_models.specs.declared.field.Field.{Field}
use Rattle.value_models.specs.TypeView.{type_view, types_view}
use Rattle.value_models.specs.FieldView.{fields_view}
use Rattle.example_laws.proofs.Small.{left, right}
use Rattle.example_values.specs.Made.{IsMade, AreMade, AreCopies}
use Rattle.example_values.proofs.Firsts.{B, M}

none : (xs : List Value) → length xs ≡ 0 → xs ≡ []
none [] l = refl
none (x ∷ xs) l = absurd (omega (arith, l))

module _ (ms : List ContainerModel) (cs : ConversionsD) where
  abbrev built_each : ℕ → List TypeModel → Bool
  built_each n us = list_all (λ u. B ms cs n (one_type u)) us

  abbrev made_each : ℕ → List TypeModel → List Value
  made_each n us = map (λ u. M ms cs n (one_type u)) us

  -- what is done and what is left are what is made of all
  unfoldable pub SoFar : List TypeModel → List Value → List TypeModel → Type 0
  SoFar us done left' = (n : ℕ) → built_each n us ≡ true → (built_each n left' ≡ true) × (done ++ made_each n left' ≡ made_each n us)

  so_far_begins : (us : List TypeModel) → SoFar us [] us
  unfolding SoFar
  so_far_begins us n h = (h, refl)

  so_far_more : (us : List TypeModel) (t : TypeModel) (rest : List TypeModel) (done new : List Value) (v : Value) → IsMade ms cs (one_type t) v → new ≡ done ++ v ∷ [] → SoFar us done (t ∷ rest) → SoFar us new rest
  unfolding SoFar IsMade
  so_far_more us t rest done new v m e was n h =
      let b = (was n h).0 in (
        right (B ms cs n (one_type t)) (built_each n rest) b,
        ap (λ xs. xs ++ made_each n rest) e
            ∙ append_assoc done (v ∷ []) (made_each n rest)
            ∙ ap (λ x. done ++ x ∷ made_each n rest) (m n (left (B ms cs n (one_type t)) (built_each n rest) b))
            ∙ (was n h).1,
      )

  so_far_ends : (us : List TypeModel) (done : List Value) → SoFar us done [] → AreMade ms cs us done
  unfolding SoFar AreMade
  so_far_ends us done was n h = sym (append-nil done) ∙ (was n h).1

  module _ {X : Type 0} (view : X → TypeModel) where
    turn : (us : List TypeModel) (xs : List X) (i : ℕ) (x : X) (old new : List value'.Value) (v : value'.Value) → i < length xs → x ≡ get_or xs i x → IsMade ms cs (one_type (view x)) (kept_view v)
        → new ≡ old ++ v ∷ [] → SoFar us (map kept_view old) (map view (drop i xs)) → SoFar us (map kept_view new) (map view (drop (i + 1) xs))
    turn us xs i x old new v h e m n was =
        let more : suc i ≡ i + 1 = omega arith in
        so_far_more us (view x) (map view (drop (i + 1) xs)) (map kept_view old) (map kept_view new) (kept_view v) m
        (ap (map kept_view) n ∙ map-append kept_view old (v ∷ []))
        (subst (SoFar us (map kept_view old)) (ap (map view) (drop-cons xs i x h) ∙ (λ z. view (sym e z) ∷ map view (drop (more z) xs))) was)

    end : (us : List TypeModel) (xs : List X) (i : ℕ) (done : List Value) → length xs ≤ i → SoFar us done (map view (drop i xs)) → AreMade ms cs us done
    end us xs i done h was = so_far_ends us done (subst (SoFar us done) (ap (map view) (drop_all i xs h)) was)

  pub types_begin : (xs : List ValueType) → SoFar (types_view xs) [] (types_view (drop 0 xs))
  types_begin xs = so_far_begins (types_view xs)

  pub types_turn : (xs : List ValueType) (i : ℕ) (x : ValueType) (old new : List value'.Value) (v : value'.Value) → i < length xs → x ≡ get_or xs i x → IsMade ms cs (one_type (type_view x)) (kept_view v) → new ≡ old ++ v ∷ []
      → SoFar (types_view xs) (map kept_view old) (types_view (drop i xs)) → SoFar (types_view xs) (map kept_view new) (types_view (drop (i + 1) xs))
  types_turn xs = turn type_view (types_view xs) xs

  pub types_end : (xs : List ValueType) (i : ℕ) (done : List Value) → length xs ≤ i → SoFar (types_view xs) done (types_view (drop i xs)) → AreMade ms cs (types_view xs) done
  types_end xs = end type_view (types_view xs) xs

  abbrev pub places_view : List Field → List TypeModel
  places_view fs = map (λ f. f.field_type) (fields_view fs)

  places_are : (fs : List Field) → map (λ (f : Field). type_view f.field_type) fs ≡ places_view fs
  places_are [] = refl
  places_are (f ∷ fs) = ap (λ us. type_view f.field_type ∷ us) (places_are fs)

  pub places_begin : (xs : List Field) → SoFar (places_view xs) [] (places_view (drop 0 xs))
  places_begin xs = so_far_begins (places_view xs)

  pub places_turn : (xs : List Field) (i : ℕ) (x : Field) (old new : List value'.Value) (v : value'.Value) → i < length xs → x ≡ get_or xs i x → IsMade ms cs (one_type (type_view x.field_type)) (kept_view v) → new ≡ old ++ v ∷ []
      → SoFar (places_view xs) (map kept_view old) (places_view (drop i xs)) → SoFar (places_view xs) (map kept_view new) (places_view (drop (i + 1) xs))
  places_turn xs i x old new v h e m n was =
      subst (SoFar (places_view xs) (map kept_view new)) (places_are (drop (i + 1) xs))
      (turn (λ (f : Field). type_view f.field_type) (places_view xs) xs i x old new v h e m n
      (subst (SoFar (places_view xs) (map kept_view old)) (sym (places_are (drop i xs))) was))

  pub places_end : (xs : List Field) (i : ℕ) (done : List Value) → length xs ≤ i → SoFar (places_view xs) done (places_view (drop i xs)) → AreMade ms cs (places_view xs) done
  places_end xs i done h was = so_far_ends (places_view xs) done (subst (SoFar (places_view xs) done) (ap places_view (drop_all i xs h)) was)

  -- ---- one type, so many times

  unfoldable pub Copied : TypeModel → ℕ → List Value → Type 0
  Copied t k vs = (length vs ≡ k) × ((n : ℕ) → B ms cs n (one_type t) ≡ true → vs ≡ replicate k (M ms cs n (one_type t)))

  pub copies_begin : (t : TypeModel) → Copied t 0 []
  unfolding Copied
  copies_begin t = (refl, λ n h. refl)

  pub copies_turn : (t : TypeModel) (k : ℕ) (old new : List value'.Value) (v : value'.Value) → IsMade ms cs (one_type t) (kept_view v) → new ≡ old ++ v ∷ [] → Copied t k (map kept_view old) → Copied t (k + 1) (map kept_view new)
  unfolding Copied IsMade
  copies_turn t k old new v m n was =
      let e : map kept_view new ≡ map kept_view old ++ kept_view v ∷ [] = ap (map kept_view) n ∙ map-append kept_view old (v ∷ []) in
      let l : length (map kept_view new) ≡ length (map kept_view old) + 1 = ap length e ∙ length-append (map kept_view old) (kept_view v ∷ []) in (
        l ∙ ap (λ z. z + 1) was.0,
        λ j h. e ∙ (λ z. was.1 j h z ++ m j h z ∷ []) ∙ replicate-append-replicate k 1 (M ms cs j (one_type t)),
      )

  pub copies_end : (t : TypeModel) (k : ℕ) (vs : List Value) → Copied t k vs → AreCopies ms cs t k vs
  unfolding Copied AreCopies
  copies_end t k vs was n h = by (k == 0) refl vs was.0 (was.1 n) h
    where
      by : (b : Bool) → (k == 0) ≡ b → (xs : List Value) → length xs ≡ k → (B ms cs n (one_type t) ≡ true → xs ≡ replicate k (M ms cs n (one_type t)))
          → (b || B ms cs n (one_type t)) ≡ true → xs ≡ replicate k (M ms cs n (one_type t))
      by false e xs l rest q = rest q
      by true e xs l rest q = none xs (let z : k ≡ 0 = eqb-true k 0 e in omega (arith, l, z)) ∙ sym (ap (λ j. replicate j (M ms cs n (one_type t))) (eqb-true k 0 e))
