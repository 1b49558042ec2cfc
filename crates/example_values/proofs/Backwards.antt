-- Rounds of parts, from the last to the first.
use Rattle.std.proofs.Common.{◌≡◌, ℕ, zero, suc, ◌+◌, ◌<◌, List, [], ◌∷◌, ◌++◌, map, drop, drop-cons, length, get_or, cond, Bool, true, false, Option, Some, sym, ap, ◌∙◌, arith}
use Rattle.std.proofs.lemmas.List.{get_or-map, length-map}
use Rattle.model_defs.specs.Types.{TypeModel, types}
use Rattle.model_defs.specs.Model.{FieldModel, VariantModel}
use Rattle.model_defs.specs.Layer.{may_be_missing, present_type}
use Rattle.example_defs.specs.Built.{found_name}
use Rattle.example_parts.specs.Names.{own_names, names_of_fields, names_of_variants, names_before, name_found}
use Rattle.value_models.specs.declared.value_type.ValueType.{ValueType}
use Rattle.value_models.specs.declared.field.Field.{Field}
use Rattle.value_models.specs.declared.variant.Variant.{Variant}
use Rattle.value_models.specs.TypeView.{type_view, types_view}
use Rattle.value_models.specs.FieldView.{field_view, fields_view}
use Rattle.value_models.specs.VariantView.{variant_view, variants_view}
use Rattle.example_values.specs.Fewest.{Rounds, both, either, if_found, type_fewest, places_fewest, field_fewest, fields_fewest, variant_fewest, found_fewest, ready_fewest}
use Rattle.example_values.specs.Known.{field_before, variant_before}

-- what stands at a place and behind it
pub from_here : {X : Type 0} (xs : List X) (i j : ℕ) (x : X) → j + 1 ≡ i → j < length xs → x ≡ get_or xs j x → drop j xs ≡ x ∷ drop i xs
from_here xs i j x s h e = drop-cons xs j x h ∙ (λ t. sym e t ∷ drop ((let k : suc j ≡ i = omega (arith, s) in k) t) xs)

-- ---- the names before a place

more_before : (earlier : List (List ℕ)) (nss : List (List (List ℕ))) (i : ℕ) (ns : List (List ℕ)) → i < length nss → ns ≡ get_or nss i ns → names_before earlier nss (suc i) ≡ ns ++ names_before earlier nss i
more_before earlier [] i ns h e = absurd (omega (arith, h))
more_before earlier (ms ∷ nss) zero ns h e = ap (λ z. z ++ earlier) (sym e)
more_before earlier (ms ∷ nss) (suc i) ns h e = more_before (ms ++ earlier) nss i ns (omega (arith, h)) e

module _ {X Y : Type 0} (view : X → Y) (names : Y → List (List ℕ)) (xs : List X) (ys : List Y) (w : map view xs ≡ ys) (i j : ℕ) (x : X) (s : j + 1 ≡ i) (h : j < length xs) (e : x ≡ get_or xs j x) where
  names_here : (d : List (List ℕ)) → names (view x) ≡ get_or (map names ys) j d
  names_here d =
      let l : length (map view xs) ≡ length xs = length-map xs view in
      let k : j < length (map view xs) = omega (arith, h, l) in
      ap (λ z. names (view z)) e
      ∙ ap names (sym (get_or-map view xs j x (view x) h))
      ∙ sym (get_or-map names (map view xs) j (view x) d k)
      ∙ ap (λ zs. get_or (map names zs) j d) w

  pub next_before : names_before [] (map names ys) i ≡ names (view x) ++ names_before [] (map names ys) j
  next_before =
      let l : length (map names ys) ≡ length xs = length-map ys names ∙ sym (ap length w) ∙ length-map xs view in
      ap (λ k. names_before [] (map names ys) k) (let k : i ≡ suc j = omega (arith, s) in k)
      ∙ more_before [] (map names ys) j (names (view x)) (omega (arith, h, l)) (names_here (names (view x)))

  pub found_here : name_found (map names ys) j ≡ found_name (names_before [] (map names ys) j) (names (view x))
  found_here = ap (found_name (names_before [] (map names ys) j)) (sym (names_here []))

-- ---- types

module _ (item : List ℕ → Rounds) where
  pub type_before : (ts : List ValueType) (i j : ℕ) (t : ValueType) (part old new : Rounds) → j + 1 ≡ i → j < length ts → t ≡ get_or ts j t → part ≡ type_fewest item (type_view t) → new ≡ both part old
      → old ≡ places_fewest item (types (types_view (drop i ts))) → new ≡ places_fewest item (types (types_view (drop j ts)))
  type_before ts i j t part old new s h e p n was =
      n ∙ (λ z. both (p z) (was z)) ∙ sym (ap (λ us. places_fewest item (types (types_view us))) (from_here ts i j t s h e))

  pub all_types : (ts : List ValueType) (i : ℕ) (r : Rounds) → i ≡ 0 → r ≡ places_fewest item (types (types_view (drop i ts))) → r ≡ places_fewest item (types (types_view ts))
  all_types ts i r z was = was ∙ ap (λ k. places_fewest item (types (types_view (drop k ts)))) z

  abbrev pub places_left : List Field → Rounds
  places_left fs = places_fewest item (types (map (λ f. f.field_type) (fields_view fs)))

  pub one_place : (fs : List Field) (i j : ℕ) (f : Field) (part old new : Rounds) → j + 1 ≡ i → j < length fs → f ≡ get_or fs j f → part ≡ type_fewest item (type_view f.field_type) → new ≡ both part old
      → old ≡ places_left (drop i fs) → new ≡ places_left (drop j fs)
  one_place fs i j f part old new s h e p n was = n ∙ (λ z. both (p z) (was z)) ∙ sym (ap places_left (from_here fs i j f s h e))

  pub all_places : (fs : List Field) (i : ℕ) (r : Rounds) → i ≡ 0 → r ≡ places_left (drop i fs) → r ≡ places_left fs
  all_places fs i r z was = was ∙ ap (λ k. places_left (drop k fs)) z

-- ---- fields and variants

module _ (leads : TypeModel → Bool) (item : List ℕ → Rounds) where
  abbrev pub fields_left : List FieldModel → ℕ → List Field → Rounds
  fields_left fs i xs = fields_fewest leads item (names_before [] (names_of_fields fs) i) (fields_view xs)

  module _ (f : FieldModel) (names : List (List ℕ)) (rest : List FieldModel) (old : Rounds) (found : Option (List ℕ)) where
    by_rest : (b : Bool) → old ≡ fields_fewest leads item (cond b [] f.deserialize_names ++ names) rest → found ≡ found_name names (cond b [] f.deserialize_names)
        → cond b old (both (cond (may_be_missing leads f) (Some 0) (if_found found (type_fewest item (present_type f)))) old)
        ≡ cond b (fields_fewest leads item names rest) (both (field_fewest leads item names f) (fields_fewest leads item (f.deserialize_names ++ names) rest))
    by_rest true o k = o
    by_rest false o k = λ z. both (cond (may_be_missing leads f) (Some 0) (if_found (k z) (type_fewest item (present_type f)))) (o z)

  pub one_field : (xs : List Field) (fs : List FieldModel) (i j : ℕ) (x : Field) (old new : Rounds) → fields_view xs ≡ fs → j + 1 ≡ i → j < length xs → x ≡ get_or xs j x
      → new ≡ field_before leads item fs j (field_view x) old → old ≡ fields_left fs i (drop i xs) → new ≡ fields_left fs j (drop j xs)
  one_field xs fs i j x old new w s h e n was =
      n ∙ by_rest (field_view x) (names_before [] (names_of_fields fs) j) (fields_view (drop i xs)) old (name_found (names_of_fields fs) j) x.is_rest
      (was ∙ ap (λ z. fields_fewest leads item z (fields_view (drop i xs))) (next_before field_view own_names xs fs w i j x s h e))
      (found_here field_view own_names xs fs w i j x s h e)
      ∙ sym (ap (fields_left fs j) (from_here xs i j x s h e))

  pub all_fields : (xs : List Field) (fs : List FieldModel) (i : ℕ) (r : Rounds) → fields_view xs ≡ fs → i ≡ 0 → r ≡ fields_left fs i (drop i xs) → r ≡ fields_fewest leads item [] fs
  all_fields xs fs i r w z was = was ∙ ap (λ k. fields_left fs k (drop k xs)) z ∙ ap (fields_fewest leads item []) w

  abbrev pub found_left : List VariantModel → ℕ → List Variant → Rounds
  found_left ws i xs = found_fewest leads item (names_before [] (names_of_variants ws) i) (variants_view xs)

  pub one_found : (xs : List Variant) (ws : List VariantModel) (i j : ℕ) (x : Variant) (old new : Rounds) → variants_view xs ≡ ws → j + 1 ≡ i → j < length xs → x ≡ get_or xs j x
      → new ≡ variant_before leads item ws j (variant_view x) old → old ≡ found_left ws i (drop i xs) → new ≡ found_left ws j (drop j xs)
  one_found xs ws i j x old new w s h e n was =
      let k = found_here variant_view (λ w. w.deserialize_names) xs ws w i j x s h e in
      let o = was ∙ ap (λ z. found_fewest leads item z (variants_view (drop i xs))) (next_before variant_view (λ w. w.deserialize_names) xs ws w i j x s h e) in
      n ∙ (λ z. either (if_found (k z) (variant_fewest leads item (variant_view x))) (o z))
      ∙ sym (ap (found_left ws j) (from_here xs i j x s h e))

  pub all_found : (xs : List Variant) (ws : List VariantModel) (i : ℕ) (r : Rounds) → variants_view xs ≡ ws → i ≡ 0 → r ≡ found_left ws i (drop i xs) → r ≡ found_fewest leads item [] ws
  all_found xs ws i r w z was = was ∙ ap (λ k. found_left ws k (drop k xs)) z ∙ ap (found_fewest leads item []) w

  abbrev pub ready_left : List Variant → Rounds
  ready_left xs = ready_fewest leads item (variants_view xs)

  pub one_ready : (xs : List Variant) (i j : ℕ) (x : Variant) (own old new : Rounds) → j + 1 ≡ i → j < length xs → x ≡ get_or xs j x → own ≡ variant_fewest leads item (variant_view x) → new ≡ either own old
      → old ≡ ready_left (drop i xs) → new ≡ ready_left (drop j xs)
  one_ready xs i j x own old new s h e p n was = n ∙ (λ z. either (p z) (was z)) ∙ sym (ap ready_left (from_here xs i j x s h e))

  pub all_ready : (xs : List Variant) (i : ℕ) (r : Rounds) → i ≡ 0 → r ≡ ready_left (drop i xs) → r ≡ ready_left xs
  all_ready xs i r z was = was ∙ ap (λ k. ready_left (drop k xs)) z
