-- Lists, sets, arrays and tuples, read again.
use Rattle.std.proofs.Common.{◌≡◌, ℕ, suc, ◌==◌, List, [], ◌∷◌, map, length, Bool, true, false, cond, refl, sym, ap, ◌∙◌, subst, arith, eq-eqb}
use Rattle.std.proofs.lemmas.Bool.{eqb-true}
use Rattle.std.specs.List.{list_any}
use Rattle.json_value.specs.Value.{Value, Items, list, item, no_items, items, same}
use Rattle.schema_defs.specs.Location.{place}
use Rattle.schema_defs.specs.Texts.{Relations}
use Rattle.model_defs.specs.Types.{TypeModel, vec_type, set_type, array_type}
use Rattle.model_defs.specs.Model.{ContainerModel, ConversionsD}
use Rattle.typed_defs.specs.Typed as typed
use Rattle.typed_defs.specs.Typed.{Typed, typeds}
use Rattle.typed_defs.specs.Written.{written, writes, by_places}
use Rattle.reading_defs.specs.Reading.{Read, taken, stopped, read_map, under, followed, items_read, places_read, list_read, array_read, tuple_read, keep_apart, value_reader, item_readers, readers_of}
use Rattle.reading_defs.proofs.Rows.{each_written}
use Rattle.writing_laws.proofs.Taken.{one_taken, never_stopped, map_taken, under_taken, followed_taken, if_taken}
use Rattle.writing_laws.proofs.Back.{ReadsAgain, AllBack, PartsBack, BackAs}

module _ (models : List ContainerModel) (cs : ConversionsD) (r : Relations) (q q' : ℕ → TypeModel → Read Typed) where
  -- ---- items of one type

  abbrev pub EachBack : TypeModel → List Typed → Type 0
  EachBack t [] = Unit {0}
  EachBack t (x ∷ xs) = ReadsAgain models cs r q q' t x × EachBack t xs

  pub items_each : (t : TypeModel) (i : ℕ) (vs : Items) (xs : List Typed) → AllBack models cs r q q' vs → items_read i t (item_readers models cs r q vs) ≡ taken xs
      → EachBack t xs × (length xs ≡ length (item_readers models cs r q vs))
  items_each t i no_items xs b e = subst (λ z. EachBack t z × (length z ≡ 0)) (one_taken [] xs e) (tt, refl)
  items_each t i (item v vs) xs b e =
      let one = (value_reader models cs r q v).as_type t in
      let g = followed_taken (under (place i) one) (items_read (suc i) t (item_readers models cs r q vs)) xs e in
      let rec = items_each t (suc i) vs g.1 b.1 g.3 in
      let back = b.0.as_type t g.0 (under_taken (place i) one g.0 g.2) in
      subst (λ z. EachBack t z × (length z ≡ suc (length (item_readers models cs r q vs)))) g.4 ((back.again, rec.0), ap suc rec.1)

  pub each_again : (t : TypeModel) (i : ℕ) (xs : List Typed) → EachBack t xs → items_read i t (item_readers models cs r q' (items (map (written models t) xs))) ≡ taken xs
  each_again t i [] b = refl
  each_again t i (x ∷ xs) b = let rec = each_again t (suc i) xs b.1 in λ j. followed (under (place i) (b.0 j)) (rec j)

  each_length : (t : TypeModel) (xs : List Typed) → length (item_readers models cs r q' (items (map (written models t) xs))) ≡ length xs
  each_length t [] = refl
  each_length t (x ∷ xs) = ap suc (each_length t xs)

  -- of a set those that are kept are kept again
  kept_each : (t : TypeModel) (seen : List Value) (xs : List Typed) → EachBack t xs → EachBack t (keep_apart (written models t) seen xs)
  kept_each t seen [] b = tt
  kept_each t seen (x ∷ xs) b = by (list_any (same (written models t x)) seen) (kept_each t seen xs b.1) (kept_each t (written models t x ∷ seen) xs b.1)
    where
      by : (z : Bool) → EachBack t (keep_apart (written models t) seen xs) → EachBack t (keep_apart (written models t) (written models t x ∷ seen) xs)
          → EachBack t (cond z (keep_apart (written models t) seen xs) (x ∷ keep_apart (written models t) (written models t x ∷ seen) xs))
      by true g h = g
      by false g h = (b.0, h)

  kept_twice : (w : Typed → Value) (seen : List Value) (xs : List Typed) → keep_apart w seen (keep_apart w seen xs) ≡ keep_apart w seen xs
  kept_twice w seen [] = refl
  kept_twice w seen (x ∷ xs) = by (list_any (same (w x)) seen) refl (kept_twice w seen xs) (kept_twice w (w x ∷ seen) xs)
    where
      by : (z : Bool) → list_any (same (w x)) seen ≡ z → keep_apart w seen (keep_apart w seen xs) ≡ keep_apart w seen xs → keep_apart w (w x ∷ seen) (keep_apart w (w x ∷ seen) xs) ≡ keep_apart w (w x ∷ seen) xs
          → keep_apart w seen (cond z (keep_apart w seen xs) (x ∷ keep_apart w (w x ∷ seen) xs)) ≡ cond z (keep_apart w seen xs) (x ∷ keep_apart w (w x ∷ seen) xs)
      by true e g h = g
      by false e g h =
          ap (λ z. cond z (keep_apart w seen (keep_apart w (w x ∷ seen) xs)) (x ∷ keep_apart w (w x ∷ seen) (keep_apart w (w x ∷ seen) xs))) e ∙ ap (λ ys. x ∷ ys) h

  -- ---- places of a tuple

  abbrev pub InPlaces : List TypeModel → List Typed → Type 0
  InPlaces [] [] = Unit {0}
  InPlaces (t ∷ ts) (x ∷ xs) = ReadsAgain models cs r q q' t x × InPlaces ts xs
  InPlaces _ _ = ⊥

  places_each : (ts : List TypeModel) (i : ℕ) (vs : Items) (xs : List Typed) → AllBack models cs r q q' vs → length (item_readers models cs r q vs) ≡ length ts
      → places_read i ts (item_readers models cs r q vs) ≡ taken xs → InPlaces ts xs
  places_each [] i no_items xs b l e = subst (InPlaces []) (one_taken [] xs e) tt
  places_each [] i (item v vs) xs b l e = absurd (omega (arith, l))
  places_each (t ∷ ts) i no_items xs b l e = absurd (omega (arith, l))
  places_each (t ∷ ts) i (item v vs) xs b l e =
      let one = (value_reader models cs r q v).as_type t in
      let g = followed_taken (under (place i) one) (places_read (suc i) ts (item_readers models cs r q vs)) xs e in
      let rec = places_each ts (suc i) vs g.1 b.1 (omega (arith, l)) g.3 in
      let back = b.0.as_type t g.0 (under_taken (place i) one g.0 g.2) in
      subst (InPlaces (t ∷ ts)) g.4 (back.again, rec)

  places_again : (ts : List TypeModel) (i : ℕ) (xs : List Typed) → InPlaces ts xs → places_read i ts (item_readers models cs r q' (items (by_places ts (map (writes models) xs)))) ≡ taken xs
  places_again [] i [] b = refl
  places_again [] i (x ∷ xs) b = absurd b
  places_again (t ∷ ts) i [] b = absurd b
  places_again (t ∷ ts) i (x ∷ xs) b = let rec = places_again ts (suc i) xs b.1 in λ j. followed (under (place i) (b.0 j)) (rec j)

  places_length : (ts : List TypeModel) (xs : List Typed) → InPlaces ts xs → length (item_readers models cs r q' (items (by_places ts (map (writes models) xs)))) ≡ length ts
  places_length [] [] b = refl
  places_length [] (x ∷ xs) b = absurd b
  places_length (t ∷ ts) [] b = absurd b
  places_length (t ∷ ts) (x ∷ xs) b = ap suc (places_length ts xs b.1)

  -- a list as the places of a tuple
  pub tuple_back : (ts : List TypeModel) (v : Value) (xs : List Typed) → PartsBack models cs r q q' v → tuple_read ts (readers_of models cs r q v) ≡ taken xs
      → tuple_read ts (readers_of models cs r q' (list (items (by_places ts (map (writes models) xs))))) ≡ taken xs
  tuple_back ts (list vs) xs b e =
      let g = if_taken (length (item_readers models cs r q vs) == length ts) (places_read 0 ts (item_readers models cs r q vs)) xs e in
      let each = places_each ts 0 vs xs b (eqb-true (length (item_readers models cs r q vs)) (length ts) g.0) g.1 in
      let again = item_readers models cs r q' (items (by_places ts (map (writes models) xs))) in
      ap (λ z. cond z (places_read 0 ts again) (stopped [])) (eq-eqb (length again) (length ts) (places_length ts xs each)) ∙ places_again ts 0 xs each
  tuple_back ts _ xs b e = absurd (never_stopped xs [] e)

  pub only_lists : (ts : List TypeModel) (v : Value) (xs : List Typed) → tuple_read ts (readers_of models cs r q v) ≡ taken xs → (P : Value → Type 0) → ((vs : Items) → P (list vs)) → P v
  only_lists ts (list vs) xs e P h = h vs
  only_lists ts _ xs e P h = absurd (never_stopped xs [] e)

  -- ---- types

  module _ (k : ℕ) where
    pub vec_back : (t : TypeModel) (v : Value) (x : Typed) → PartsBack models cs r q q' v → read_map (λ xs. typed.list (typeds xs)) (list_read t (readers_of models cs r q v)) ≡ taken x
        → BackAs models cs r q q' k v (vec_type t) x (written models (vec_type t) x)
    vec_back t (list vs) x b e =
        let g = map_taken (λ xs. typed.list (typeds xs)) (items_read 0 t (item_readers models cs r q vs)) x e in
        let each = items_each t 0 vs g.0 b g.1 in
        subst (λ z. BackAs models cs r q q' k (list vs) (vec_type t) z (written models (vec_type t) z)) g.2
        (subst (λ w. BackAs models cs r q q' k (list vs) (vec_type t) (typed.list (typeds g.0)) w) (sym (ap (λ ws. list (items ws)) (each_written models t g.0)))
        (ap (read_map (λ xs. typed.list (typeds xs))) (each_again t 0 g.0 each.0), tt))
    vec_back t _ x b e = absurd (never_stopped x [] e)

    pub set_back : (t : TypeModel) (v : Value) (x : Typed) → PartsBack models cs r q q' v
        → read_map (λ xs. typed.list (typeds (keep_apart (written models t) [] xs))) (list_read t (readers_of models cs r q v)) ≡ taken x
        → BackAs models cs r q q' k v (set_type t) x (written models (set_type t) x)
    set_back t (list vs) x b e =
        let g = map_taken (λ xs. typed.list (typeds (keep_apart (written models t) [] xs))) (items_read 0 t (item_readers models cs r q vs)) x e in
        let each = items_each t 0 vs g.0 b g.1 in
        let kept = keep_apart (written models t) [] g.0 in
        subst (λ z. BackAs models cs r q q' k (list vs) (set_type t) z (written models (set_type t) z)) g.2
        (subst (λ w. BackAs models cs r q q' k (list vs) (set_type t) (typed.list (typeds kept)) w) (sym (ap (λ ws. list (items ws)) (each_written models t kept))) (
          ap (read_map (λ xs. typed.list (typeds (keep_apart (written models t) [] xs)))) (each_again t 0 kept (kept_each t [] g.0 each.0))
              ∙ ap (λ ys. taken (typed.list (typeds ys))) (kept_twice (written models t) [] g.0),
          tt,
        ))
    set_back t _ x b e = absurd (never_stopped x [] e)

    pub array_back : (t : TypeModel) (n : ℕ) (v : Value) (x : Typed) → PartsBack models cs r q q' v → read_map (λ xs. typed.list (typeds xs)) (array_read t n (readers_of models cs r q v)) ≡ taken x
        → BackAs models cs r q q' k v (array_type t n) x (written models (array_type t n) x)
    array_back t n (list vs) x b e =
        let first = item_readers models cs r q vs in
        let g = map_taken (λ xs. typed.list (typeds xs)) (cond (length first == n) (items_read 0 t first) (stopped [])) x e in
        let h = if_taken (length first == n) (items_read 0 t first) g.0 g.1 in
        let each = items_each t 0 vs g.0 b h.1 in
        let again = item_readers models cs r q' (items (map (written models t) g.0)) in
        subst (λ z. BackAs models cs r q q' k (list vs) (array_type t n) z (written models (array_type t n) z)) g.2
        (subst (λ w. BackAs models cs r q q' k (list vs) (array_type t n) (typed.list (typeds g.0)) w) (sym (ap (λ ws. list (items ws)) (each_written models t g.0)))
        (ap (read_map (λ xs. typed.list (typeds xs))) (ap (λ l. cond (l == n) (items_read 0 t again) (stopped [])) (each_length t g.0 ∙ each.1) ∙ ap (λ z. cond z (items_read 0 t again) (stopped [])) h.0 ∙ each_again t 0 g.0 each.0), tt))
    array_back t n _ x b e = absurd (never_stopped x [] e)

    pub tuple_type_back : (ts : List TypeModel) (t : TypeModel) → t ≡ t → (v : Value) (x : Typed) → PartsBack models cs r q q' v → read_map (λ xs. typed.list (typeds xs)) (tuple_read ts (readers_of models cs r q v)) ≡ taken x
        → (xs : List Typed) × (tuple_read ts (readers_of models cs r q' (list (items (by_places ts (map (writes models) xs))))) ≡ taken xs) × (typed.list (typeds xs) ≡ x)
    tuple_type_back ts t u v x b e =
        let g = map_taken (λ xs. typed.list (typeds xs)) (tuple_read ts (readers_of models cs r q v)) x e in
        (g.0, tuple_back ts v g.0 b g.1, g.2)
