-- What a loop keeps of listed values.
use Rattle.std.proofs.Common.{◌≡◌, ℕ, ◌+◌, ◌<◌, ◌≤◌, List, [], ◌∷◌, ◌++◌, map, drop, length, get_or, Bool, true, false, not, ap, ◌∙◌}
use Rattle.std.specs.Prelude.{filter}
use Rattle.std.proofs.lemmas.List.{drop_all, map_push}
use Rattle.serde_json.specs.declared.value.Value as json
use Rattle.json_value.specs.Value.{Value}
use Rattle.json_value.specs.View.{kept_view}
use Rattle.model_defs.specs.Layer.{is_null}
use Rattle.schema_defs.proofs.Turns.{mapped_drop}
use Rattle.merge_leaves.proofs.Filters.{kept, left_out, no_more}

abbrev stays : Value → Bool
stays v = not (is_null v)

module _ (xs : List json.Value) (i : ℕ) where
  pub value_kept : (x y : json.Value) (old new : List json.Value) (w : List Value) → i < length xs → x ≡ get_or xs i x → not (is_null (kept_view x)) ≡ true → kept_view y ≡ kept_view x → new ≡ old ++ y ∷ []
      → map kept_view old ++ filter (λ v. not (is_null v)) (map kept_view (drop i xs)) ≡ w → map kept_view new ++ filter (λ v. not (is_null v)) (map kept_view (drop (i + 1) xs)) ≡ w
  value_kept x y old new w l e h s made was =
      kept stays (kept_view x) (map kept_view (drop i xs)) (map kept_view (drop (i + 1) xs)) (map kept_view old) (map kept_view new) w (mapped_drop kept_view xs i x l e) h
      (ap (map kept_view) made ∙ map_push kept_view old y ∙ ap (λ v. map kept_view old ++ v ∷ []) s) was

  pub value_left : (x : json.Value) (old : List json.Value) (w : List Value) → i < length xs → x ≡ get_or xs i x → not (is_null (kept_view x)) ≡ false
      → map kept_view old ++ filter (λ v. not (is_null v)) (map kept_view (drop i xs)) ≡ w → map kept_view old ++ filter (λ v. not (is_null v)) (map kept_view (drop (i + 1) xs)) ≡ w
  value_left x old w l e h was = left_out stays (kept_view x) (map kept_view (drop i xs)) (map kept_view (drop (i + 1) xs)) (map kept_view old) w (mapped_drop kept_view xs i x l e) h was

  pub values_end : (old : List json.Value) (w : List Value) → length xs ≤ i → map kept_view old ++ filter (λ v. not (is_null v)) (map kept_view (drop i xs)) ≡ w → map kept_view old ≡ w
  values_end old w h was = no_more stays (map kept_view (drop i xs)) (map kept_view old) w (ap (map kept_view) (drop_all i xs h)) was
