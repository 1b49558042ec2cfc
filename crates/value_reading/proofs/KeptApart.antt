-- Items kept apart, one after the other.
use Rattle.std.proofs.Common.{◌≡◌, List, [], ◌∷◌, ◌++◌, refl, sym, ap, ◌∙◌, Bool, true, false, cond, ◌||◌}
use Rattle.std.specs.List.{list_any}
use Rattle.json_value.specs.Value.{Value, same}
use Rattle.json_value.specs.View.{kept_view}
use Rattle.serde_json.specs.declared.value.Value as json
use Rattle.typed_defs.specs.Typed.{Typed}
use Rattle.reading_defs.specs.Reading.{keep_apart}
use Rattle.value_models.specs.declared.typed.Typed.{Typed as Typed'}
use Rattle.value_models.specs.TypedView.{typed_view, typeds_view}
use Rattle.value_parts.proofs.Turns.{one_more}

-- a test in place of the list of what was seen
abbrev pub kept_by : (Typed → Value) → (Value → Bool) → List Typed → List Typed
kept_by w held [] = []
kept_by w held (x ∷ xs) = cond (held (w x)) (kept_by w held xs) (x ∷ kept_by w (λ v. same v (w x) || held v) xs)

alike : (w : Typed → Value) (held : Value → Bool) (seen : List Value) (xs : List Typed) → ((v : Value) → held v ≡ list_any (same v) seen) → kept_by w held xs ≡ keep_apart w seen xs
alike w held seen [] h = refl
alike w held seen (x ∷ xs) h =
    λ i. cond (h (w x) i) (alike w held seen xs h i) (x ∷ alike w (λ v. same v (w x) || held v) (w x ∷ seen) xs (λ v. ap (λ b. same v (w x) || b) (h v)) i)

pub begun : (w : Typed → Value) (held : Value → Bool) (xs : List Typed) → ((v : Value) → held v ≡ false) → kept_by w held xs ≡ keep_apart w [] xs
begun w held xs h = alike w held [] xs h

module _ (w : Typed → Value) (held : Value → Bool) where
  -- one that was not seen before
  pub kept_turn : (after : Value → Bool) (old new : List Typed') (x : Typed') (v : json.Value) (xs : List Typed') (b : Bool) (whole : List Typed)
      → kept_view v ≡ w (typed_view x) → b ≡ held (kept_view v) → b ≡ false → new ≡ old ++ x ∷ [] → ((u : Value) → after u ≡ (same u (kept_view v) || held u))
      → typeds_view old ++ kept_by w held (typeds_view (x ∷ xs)) ≡ whole
      → typeds_view new ++ kept_by w after (typeds_view xs) ≡ whole
  kept_turn after old new x v xs b whole e t f n a was =
      let same_test : after ≡ (λ u. same u (w (typed_view x)) || held u) = λ i u. (a u ∙ ap (λ y. same u y || held u) e) i in
      let unseen : held (w (typed_view x)) ≡ false = ap held (sym e) ∙ sym t ∙ f in
      ap (λ h. typeds_view new ++ kept_by w h (typeds_view xs)) same_test
      ∙ one_more typed_view old new x (kept_by w (λ u. same u (w (typed_view x)) || held u) (typeds_view xs)) whole n
      (ap (λ c. typeds_view old ++ cond c (kept_by w held (typeds_view xs)) (typed_view x ∷ kept_by w (λ u. same u (w (typed_view x)) || held u) (typeds_view xs))) (sym unseen) ∙ was)

  -- one that was
  pub dropped_turn : (old : List Typed') (x : Typed') (v : json.Value) (xs : List Typed') (b : Bool) (whole : List Typed)
      → kept_view v ≡ w (typed_view x) → b ≡ held (kept_view v) → b ≡ true
      → typeds_view old ++ kept_by w held (typeds_view (x ∷ xs)) ≡ whole
      → typeds_view old ++ kept_by w held (typeds_view xs) ≡ whole
  dropped_turn old x v xs b whole e t f was =
      let seen : held (w (typed_view x)) ≡ true = ap held (sym e) ∙ sym t ∙ f in
      ap (λ c. typeds_view old ++ cond c (kept_by w held (typeds_view xs)) (typed_view x ∷ kept_by w (λ u. same u (w (typed_view x)) || held u) (typeds_view xs))) (sym seen) ∙ was
