-- What old variants lead to is what the rows of enums say.
use Rattle.std.proofs.Common.{◌≡◌, ◌<◌, ◌≤◌, ◌+◌, ℕ, zero, suc, List, [], ◌∷◌, ◌++◌, drop, drop-cons, length, get_or, Bool, true, false, cond, ◌||◌, bytes_eq, Option, Some, None, slice_get, refl, sym, ap, ◌∙◌, append_assoc, append-nil, arith}
use Rattle.std.specs.List.{list_any}
use Rattle.std.proofs.lemmas.List.{drop_all, map-append}
use Rattle.model_defs.specs.Model.{VariantModel, variant_named}
use Rattle.model_defs.specs.Layer.{is_unit}
use Rattle.name_tables.specs.Names.{Names, place_of}
use Rattle.value_models.specs.Names.{at_one_place, variant_names, at_place}
use Rattle.value_models.specs.VariantView.{variant_view, variants_view}
use Rattle.value_models.specs.declared.variant.Variant.{Variant}
use Rattle.value_models.proofs.Found.{variants_are_found}
use Rattle.evolve_defs.specs.Forms.{contents}
use Rattle.evolve_defs.specs.Steps.{variant_lost, fails, reaches, both, Pair, Verdict, units_verdict, variant_verdict, beside_verdict, variants_verdict, besides_verdict}
use Rattle.evolve_defs.specs.Walk.{Turn, stops, goes}
use Rattle.evolve_defs.specs.Spots.{Spot, Spots, each_spot, of_variant, number_named, renamed, variant_spots, beside_spots}
use Rattle.evolve_rows.specs.TurnView.{pair_view, pairs_view}
use Rattle.evolve_rows.specs.declared.turn.Pair.{Pair as Pairs}
use Rattle.evolve_rows.specs.Led.{units_led, led_to, led, joined, all_led}

-- ---- names and numbers

either_way : (a b : Bool) (i : ℕ) (o : Option ℕ) → cond a (Some i) (cond b (Some i) o) ≡ cond (a || b) (Some i) o
either_way true b i o = refl
either_way false b i o = refl

place_first : (n : List ℕ) (i : ℕ) (ns : List (List ℕ)) (es : Names) → place_of n (at_one_place i ns ++ es) ≡ cond (list_any (bytes_eq n) ns) (Some i) (place_of n es)
place_first n i [] es = refl
place_first n i (m ∷ ns) es =
    ap (λ o. cond (bytes_eq n m) (Some i) o) (place_first n i ns es) ∙ either_way (bytes_eq n m) (list_any (bytes_eq n) ns) i (place_of n es)

abbrev held : Option ℕ → ℕ
held None = 0
held (Some p) = p

first_or_later : (p i k : ℕ) (b : Bool) (o : Option ℕ) → Some p ≡ cond b (Some i) o → (Some p ≡ o → k ≡ p) → cond b i k ≡ p
first_or_later p i k true o h f = ap held (sym h)
first_or_later p i k false o h f = f h

number_at : (n : List ℕ) (i : ℕ) (us : List VariantModel) (p : ℕ) → Some p ≡ place_of n (variant_names i us) → number_named i n us ≡ p
number_at n i [] p h = cc
number_at n i (u ∷ us) p h =
    first_or_later p i (number_named (suc i) n us) (list_any (bytes_eq n) u.deserialize_names) (place_of n (variant_names (suc i) us))
    (h ∙ place_first n i u.deserialize_names (variant_names (suc i) us)) (number_at n (suc i) us p)

module _ (beside : Bool) (h k : List ℕ) (i : ℕ) (w : VariantModel) (us : List VariantModel) where
  pub named_led : (p : ℕ) (o : Option (List Spots)) → Some p ≡ place_of w.serialize_name (variant_names 0 us)
      → o ≡ led_to beside (is_unit w) (of_variant h i, of_variant k p) (slice_get us p) → o ≡ led beside h k i w us
  named_led p o at e =
      let number : p ≡ number_named 0 w.serialize_name us = sym (number_at w.serialize_name 0 us p at) in
      let found : slice_get us p ≡ variant_named w.serialize_name us = ap (at_place us) at ∙ sym (variants_are_found w.serialize_name us) in
      e ∙ (λ j. led_to beside (is_unit w) (of_variant h i, of_variant k (number j)) (found j))

  pub unnamed_led : None ≡ place_of w.serialize_name (variant_names 0 us) → None ≡ led beside h k i w us
  unnamed_led at =
      ap (λ o. led_to beside (is_unit w) (of_variant h i, of_variant k (number_named 0 w.serialize_name us)) (at_place us o)) at
      ∙ ap (λ o. led_to beside (is_unit w) (of_variant h i, of_variant k (number_named 0 w.serialize_name us)) o) (sym (variants_are_found w.serialize_name us))

-- ---- one after another

joined_more : (a b : List Spots) (t : Turn Spots) → joined (Some a) (joined (Some b) t) ≡ joined (Some (a ++ b)) t
joined_more a b (stops e) = refl
joined_more a b (goes qs) = ap goes (sym (append_assoc a b qs))

module _ (beside : Bool) (h k : List ℕ) (us : List VariantModel) (xs : List Variant) (i : ℕ) where
  abbrev from : ℕ → Turn Spots
  from j = all_led beside h k j (variants_view (drop j xs)) us

  next_led : (d : Variant) → i < length xs → from i ≡ joined (led beside h k i (variant_view (get_or xs i d)) us) (from (i + 1))
  next_led d l =
      let next : suc i ≡ i + 1 = omega arith in
      ap (λ ys. all_led beside h k i (variants_view ys) us) (drop-cons xs i d l)
      ∙ ap (λ j. joined (led beside h k i (variant_view (get_or xs i d)) us) (all_led beside h k j (variants_view (drop j xs)) us)) next

  pub led_turn : (d : Variant) (l old new : List Spots) (w : Turn Spots) → i < length xs → Some l ≡ led beside h k i (variant_view (get_or xs i d)) us → new ≡ old ++ l
      → joined (Some old) (from i) ≡ w → joined (Some new) (from (i + 1)) ≡ w
  led_turn d l old new w less e n was =
      ap (λ ps. joined (Some ps) (from (i + 1))) n
      ∙ sym (joined_more old l (from (i + 1)))
      ∙ ap (λ o. joined (Some old) (joined o (from (i + 1)))) e
      ∙ ap (λ t. joined (Some old) t) (sym (next_led d less))
      ∙ was

  -- at the variant that was read, and its number
  pub read_turn : (x : Variant) (n : ℕ) (l old new : List Spots) (w : Turn Spots) → i < length xs → x ≡ get_or xs i x → n ≡ i → Some l ≡ led beside h k n (variant_view x) us → new ≡ old ++ l
      → joined (Some old) (from i) ≡ w → joined (Some new) (from (i + 1)) ≡ w
  read_turn x n l old new w less at same e more was =
      let here : Some l ≡ led beside h k i (variant_view (get_or xs i x)) us = e ∙ (λ j. led beside h k (same j) (variant_view (at j)) us) in
      led_turn x l old new w less here more was

  pub led_lost : (d : Variant) (old : List Spots) (w : Turn Spots) → i < length xs → None ≡ led beside h k i (variant_view (get_or xs i d)) us
      → joined (Some old) (from i) ≡ w → stops variant_lost ≡ w
  led_lost d old w less e was =
      ap (λ o. joined (Some old) (joined o (from (i + 1)))) e ∙ ap (λ t. joined (Some old) t) (sym (next_led d less)) ∙ was

  pub led_end : (old : List Spots) (w : Turn Spots) → length xs ≤ i → joined (Some old) (from i) ≡ w → goes old ≡ w
  led_end old w past was =
      ap goes (sym (append-nil old)) ∙ ap (λ ys. joined (Some old) (all_led beside h k i (variants_view ys) us)) (sym (drop_all i xs past)) ∙ was

-- ---- each with one place

at_least : {X : Type 0} (xs : List X) (i : ℕ) → i < length xs → (x : X) × (drop i xs ≡ x ∷ drop (i + 1) xs)
at_least [] i h = absurd (omega (arith, h))
at_least (x ∷ xs) zero h = (x, refl)
at_least (x ∷ xs) (suc i) h =
    let less : i < length xs = omega (arith, h) in
    let rec = at_least xs i less in
    let later : suc (i + 1) ≡ suc i + 1 = omega arith in
    (rec.0, rec.1 ∙ ap (λ k. rec.0 ∷ drop k (x ∷ xs)) later)

module _ (h : List ℕ) (q : Spot) (xs : List Variant) (i : ℕ) where
  pub each_turn : (old new : List Pairs) (p : Pairs) (n : ℕ) (w : List Spots) → i < length xs → n ≡ i → new ≡ old ++ p ∷ [] → pair_view p ≡ (of_variant h n, q)
      → pairs_view old ++ each_spot h q i (variants_view (drop i xs)) ≡ w → pairs_view new ++ each_spot h q (i + 1) (variants_view (drop (i + 1) xs)) ≡ w
  each_turn old new p n w less same more is was =
      let found = at_least xs i less in
      let rest = each_spot h q (i + 1) (variants_view (drop (i + 1) xs)) in
      let later : i + 1 ≡ suc i = omega arith in
      let spot : pair_view p ≡ (of_variant h i, q) = is ∙ ap (λ k. (of_variant h k, q)) same in
      ap (λ ps. pairs_view ps ++ rest) more
      ∙ ap (λ ps. ps ++ rest) (map-append pair_view old (p ∷ []))
      ∙ append_assoc (pairs_view old) (pair_view p ∷ []) rest
      ∙ ap (λ s. pairs_view old ++ s ∷ rest) spot
      ∙ ap (λ k. pairs_view old ++ (of_variant h i, q) ∷ each_spot h q k (variants_view (drop (i + 1) xs))) later
      ∙ ap (λ ys. pairs_view old ++ each_spot h q i (variants_view ys)) (sym found.1)
      ∙ was

-- ---- the rows

module _ (c d : Bool) (h k : List ℕ) (us : List VariantModel) where
  one_unit : (a b : Bool) (q : Spots) (p : Pair) (v : Verdict) (ss : List Spots)
      → joined (units_led false a b q) (renamed v ss) ≡ renamed (both (units_verdict a b p) v) (cond a [] (q ∷ []) ++ ss)
  one_unit true true q p (fails e) ss = refl
  one_unit true true q p (reaches ps) ss = refl
  one_unit false false q p (fails e) ss = refl
  one_unit false false q p (reaches ps) ss = refl
  one_unit true false q p v ss = refl
  one_unit false true q p v ss = refl

  one_led : (w : VariantModel) (q : Spots) (o : Option VariantModel) (v : Verdict) (ss : List Spots)
      → joined (led_to false (is_unit w) q o) (renamed v ss) ≡ renamed (both (variant_verdict c d w o) v) (cond (is_unit w) [] (q ∷ []) ++ ss)
  one_led w q None v ss = refl
  one_led w q (Some u) v ss = one_unit (is_unit w) (is_unit u) q (contents c w, contents d u) v ss

  one_beside : (w : VariantModel) (q : Spots) (o : Option VariantModel) (v : Verdict) (ss : List Spots)
      → joined (led_to true (is_unit w) q o) (renamed v ss) ≡ renamed (both (beside_verdict c d w o) v) ((q ∷ []) ++ ss)
  one_beside w q None v ss = refl
  one_beside w q (Some u) (fails e) ss = refl
  one_beside w q (Some u) (reaches ps) ss = refl

  pub variants_say : (i : ℕ) (ws : List VariantModel) → all_led false h k i ws us ≡ renamed (variants_verdict c d ws us) (variant_spots h k i ws us)
  variants_say i [] = refl
  variants_say i (w ∷ ws) =
      let q : Spots = (of_variant h i, of_variant k (number_named 0 w.serialize_name us)) in
      ap (λ t. joined (led false h k i w us) t) (variants_say (suc i) ws)
      ∙ one_led w q (variant_named w.serialize_name us) (variants_verdict c d ws us) (variant_spots h k (suc i) ws us)

  pub besides_say : (i : ℕ) (ws : List VariantModel) → all_led true h k i ws us ≡ renamed (besides_verdict c d ws us) (beside_spots h k i ws us)
  besides_say i [] = refl
  besides_say i (w ∷ ws) =
      let q : Spots = (of_variant h i, of_variant k (number_named 0 w.serialize_name us)) in
      ap (λ t. joined (led true h k i w us) t) (besides_say (suc i) ws)
      ∙ one_beside w q (variant_named w.serialize_name us) (besides_verdict c d ws us) (beside_spots h k (suc i) ws us)
