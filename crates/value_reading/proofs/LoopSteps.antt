-- One more turn of each loop of reading, and its end.
use Rattle.std.proofs.Common.{◌≡◌, ℕ, zero, suc, ◌+◌, ◌<◌, ◌≤◌, List, [], ◌∷◌, ◌++◌, map, drop, length, get_or, slice_get, Option, Some, None, Bool, true, false, refl, sym, ap, ◌∙◌, arith, is_some, true≢false}
use Rattle.std.proofs.lemmas.List.{map-append, length-map, drop_all}
use Rattle.serde_json.specs.declared.value.Value as json
use Rattle.json_value.specs.Value.{Value, text}
use Rattle.schema_defs.specs.Location.{Location, place}
use Rattle.model_defs.specs.Types.{TypeModel}
use Rattle.model_defs.specs.Model.{FieldModel, VariantModel}
use Rattle.typed_defs.specs.Typed.{Typed}
use Rattle.reading_defs.specs.Reading.{Read, taken, stopped, unsound, Reader, read_map, under, paired, here, followed, or_next, items_read, places_read, pair_read}
use Rattle.json_value.specs.View.{kept_view}
use Rattle.value_models.specs.declared.typed.Typed.{Typed as Typed'}
use Rattle.value_models.specs.declared.variant.Variant.{Variant}
use Rattle.value_models.specs.declared.field.Field.{Field}
use Rattle.value_models.specs.FieldView.{field_view, fields_view}
use Rattle.value_models.specs.VariantView.{variant_view, variants_view}
use Rattle.value_models.specs.TypedView.{typed_view, typeds_view, pairs_view}
use Rattle.value_parts.specs.declared.members.Member.{Member}
use Rattle.value_parts.specs.At.{Setting, Entry, Demand, each, by_place, reader, entry_part, demand_at, demanded_from, pairs_at, untagged_at}
use Rattle.value_parts.specs.Entries.{entry_view, entries_view}
use Rattle.value_parts.specs.Slots.{field_at, fields_from}
use Rattle.value_parts.proofs.Turns.{mapped_get, mapped_drop, mapped_past}
use Rattle.value_reading.specs.Steps.{part_at, place_at, pair_at, variant_at}
use Rattle.value_reading.proofs.Levels.{as_type_is}

-- ---- a list of types from a place on

abbrev held : {A : Type 0} → A → Option A → A
held d None = d
held d (Some x) = x

types_there : (ts : List TypeModel) (i : ℕ) (t : TypeModel) → Some t ≡ slice_get ts i → drop i ts ≡ t ∷ drop (suc i) ts
types_there [] i t h = absurd (none h)
  where
    none : Some t ≡ None → ⊥
    none e = true≢false (ap is_some e)
types_there (u ∷ ts) zero t h = ap (λ x. x ∷ ts) (sym (same h))
  where
    same : Some t ≡ Some u → t ≡ u
    same e = ap (held t) e
types_there (u ∷ ts) (suc i) t h = types_there ts i t h

types_past : (ts : List TypeModel) (i : ℕ) → None ≡ slice_get ts i → drop i ts ≡ []
types_past [] zero h = refl
types_past [] (suc i) h = refl
types_past (u ∷ ts) zero h = absurd (none h)
  where
    none : None ≡ Some u → ⊥
    none e = true≢false (sym (ap is_some e))
types_past (u ∷ ts) (suc i) h = types_past ts i h

module _ (s : Setting) where
  -- ---- items

  first_item : (d : Demand) (i : ℕ) (t : TypeModel) (v : Value) (vs : List Value) → Some t ≡ demand_at d i
      → demanded_from s d i (v ∷ vs) ≡ followed (place_at s i t v) (demanded_from s d (suc i) vs)
  first_item (each u) i t v vs h =
      let same : t ≡ u = ap (held t) h in
      ap (λ r. followed (under (place i) r) (items_read (suc i) u (map (reader s) vs))) (as_type_is s u v ∙ ap (λ z. part_at s z v) (sym same))
  first_item (by_place ts) i t v vs h =
      ap (λ us. places_read i us (reader s v ∷ map (reader s) vs)) (types_there ts i t h)
      ∙ ap (λ r. followed (under (place i) r) (places_read (suc i) (drop (suc i) ts) (map (reader s) vs))) (as_type_is s t v)

  pub item_step : (d : Demand) (vs : List json.Value) (i : ℕ) (t : TypeModel) (v : json.Value) → i < length vs → v ≡ get_or vs i v → Some t ≡ demand_at d i
      → demanded_from s d i (map kept_view (drop i vs)) ≡ followed (place_at s i t (kept_view v)) (demanded_from s d (i + 1) (map kept_view (drop (i + 1) vs)))
  item_step d vs i t v h e g =
      let next : suc i ≡ i + 1 = omega arith in
      ap (demanded_from s d i) (mapped_drop kept_view vs i v h e) ∙ first_item d i t (kept_view v) (map kept_view (drop (i + 1) vs)) g
      ∙ ap (λ j. followed (place_at s i t (kept_view v)) (demanded_from s d j (map kept_view (drop (i + 1) vs)))) next

  pub item_unasked : (d : Demand) (vs : List Value) (i : ℕ) → None ≡ demand_at d i → demanded_from s d i vs ≡ taken []
  item_unasked (each t) vs i h = absurd (none h)
    where
      none : None ≡ Some t → ⊥
      none e = true≢false (sym (ap is_some e))
  item_unasked (by_place ts) vs i h = ap (λ us. places_read i us (map (reader s) vs)) (types_past ts i h)

  none_placed : (i : ℕ) (ts : List TypeModel) → places_read i ts [] ≡ taken []
  none_placed i [] = refl
  none_placed i (t ∷ ts) = refl

  no_items_left : (d : Demand) (i : ℕ) → demanded_from s d i [] ≡ taken []
  no_items_left (each t) i = refl
  no_items_left (by_place ts) i = none_placed i (drop i ts)

  pub items_end : (d : Demand) (vs : List json.Value) (i : ℕ) → length vs ≤ i → demanded_from s d i (map kept_view (drop i vs)) ≡ taken []
  items_end d vs i h = ap (demanded_from s d i) (mapped_past kept_view vs i h) ∙ no_items_left d i

  -- ---- members of a map

  pub pair_step : (k t : TypeModel) (ms : List Member) (i : ℕ) (d : Member) → i < length ms
      → pairs_at s k t (entries_view (drop i ms)) ≡ followed (pair_at s k t (entry_view (get_or ms i d))) (pairs_at s k t (entries_view (drop (i + 1) ms)))
  pair_step k t ms i d h = ap (pairs_at s k t) (mapped_get entry_view ms i d h)

  pub pairs_end : (k t : TypeModel) (ms : List Member) (i : ℕ) → length ms ≤ i → pairs_at s k t (entries_view (drop i ms)) ≡ taken []
  pairs_end k t ms i h = ap (pairs_at s k t) (mapped_past entry_view ms i h)

  pair_is : (k t : TypeModel) (e : Entry) → under e.0 (paired (here (part_at s k (text e.0))) (part_at s t e.1)) ≡ pair_at s k t e
  pair_is k t e = ap (λ r. under e.0 (paired (here (part_at s k (text e.0))) r)) (sym (as_type_is s t e.1))

  pub pair_taken : (k t : TypeModel) (e : Entry) (x : Typed) (r : Read Typed) (o : Read (Typed × Typed)) → taken x ≡ part_at s k (text e.0) → r ≡ part_at s t e.1
      → o ≡ under e.0 (read_map (λ y. (x, y)) r) → o ≡ pair_at s k t e
  pair_taken k t e x r o h g w =
      w ∙ (λ i. under e.0 (paired (here (h i)) (g i))) ∙ pair_is k t e

  pub pair_stopped : (k t : TypeModel) (e : Entry) (l : Location) (o : Read (Typed × Typed)) → stopped l ≡ part_at s k (text e.0) → o ≡ stopped (e.0 ∷ []) → o ≡ pair_at s k t e
  pair_stopped k t e l o h w = w ∙ ap (λ r. under e.0 (paired (here r) (part_at s t e.1))) h ∙ pair_is k t e

  pub pair_unsound : (k t : TypeModel) (e : Entry) → unsound ≡ part_at s k (text e.0) → unsound ≡ pair_at s k t e
  pair_unsound k t e h = ap (λ r. under e.0 (paired (here r) (part_at s t e.1))) h ∙ pair_is k t e

  -- ---- variants in turn

  pub variant_step : (k : ℕ) (closed : Bool) (ws : List Variant) (i : ℕ) (w : Variant) (v : Value) → i < length ws → w ≡ get_or ws i w
      → untagged_at s k closed i (variants_view (drop i ws)) v ≡ or_next (variant_at s k closed i (variant_view w) v) (untagged_at s k closed (i + 1) (variants_view (drop (i + 1) ws)) v)
  variant_step k closed ws i w v h e =
      let next : suc i ≡ i + 1 = omega arith in
      ap (λ us. untagged_at s k closed i us v) (mapped_drop variant_view ws i w h e)
      ∙ ap (λ j. or_next (variant_at s k closed i (variant_view w) v) (untagged_at s k closed j (variants_view (drop (i + 1) ws)) v)) next

  pub variants_end : (k : ℕ) (closed : Bool) (ws : List Variant) (i : ℕ) (v : Value) → length ws ≤ i → stopped [] ≡ untagged_at s k closed i (variants_view (drop i ws)) v
  variants_end k closed ws i v h = ap (λ us. untagged_at s k closed i us v) (sym (mapped_past variant_view ws i h))

  -- ---- fields

  pub field_step : (own : ℕ → List Entry) (un : List Entry) (fs : List FieldModel) (xs : List Field) (i : ℕ) (x : Field) → fields_view xs ≡ fs → i < length xs → x ≡ get_or xs i x
      → fields_from s own un i (drop i fs) ≡ followed (field_at s (field_view x) un (own i)) (fields_from s own un (i + 1) (drop (i + 1) fs))
  field_step own un fs xs i x f h e =
      let next : suc i ≡ i + 1 = omega arith in
      ap (λ gs. fields_from s own un i (drop i gs)) (sym f) ∙ ap (fields_from s own un i) (dropped xs i ∙ mapped_drop field_view xs i x h e)
      ∙ ap (λ j. followed (field_at s (field_view x) un (own i)) (fields_from s own un j (fields_view (drop (i + 1) xs)))) next
      ∙ ap (λ gs. followed (field_at s (field_view x) un (own i)) (fields_from s own un (i + 1) gs)) (sym (dropped xs (i + 1)) ∙ ap (drop (i + 1)) f)
    where
      dropped : (ys : List Field) (j : ℕ) → drop j (fields_view ys) ≡ fields_view (drop j ys)
      dropped [] zero = refl
      dropped [] (suc j) = refl
      dropped (y ∷ ys) zero = refl
      dropped (y ∷ ys) (suc j) = dropped ys j

  pub fields_end : (own : ℕ → List Entry) (un : List Entry) (fs : List FieldModel) (xs : List Field) (i : ℕ) → fields_view xs ≡ fs → length xs ≤ i
      → fields_from s own un i (drop i fs) ≡ taken []
  fields_end own un fs xs i f h =
      ap (fields_from s own un i) (drop_all i fs (omega (arith, ap length f, length-map xs field_view, h)))

-- ---- more that was read

pub typeds_more : (old new : List Typed') (x : Typed') → new ≡ old ++ x ∷ [] → typeds_view new ≡ typeds_view old ++ typed_view x ∷ []
typeds_more old new x n = ap typeds_view n ∙ map-append typed_view old (x ∷ [])

-- a pair, as it is seen
abbrev both : Typed' × Typed' → Typed × Typed
both d = (typed_view d.0, typed_view d.1)

pub pairs_more : (old new : List (Typed' × Typed')) (e : Typed' × Typed') → new ≡ old ++ e ∷ [] → pairs_view new ≡ pairs_view old ++ (typed_view e.0, typed_view e.1) ∷ []
pairs_more old new e n = ap pairs_view n ∙ map-append both old (e ∷ [])
