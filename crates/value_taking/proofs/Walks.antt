-- All of a list, or some of it, one after another.
use Rattle.std.proofs.Common.{◌≡◌, ℕ, zero, suc, ◌+◌, ◌<◌, ◌≤◌, List, [], ◌∷◌, map, drop, length, get_or, slice_get, Bool, true, false, ◌&&◌, ◌||◌, Option, Some, None, refl, sym, ap, ◌∙◌, arith, is_some, true≢false}
use Rattle.std.specs.List.{list_all, list_any}
use Rattle.std.proofs.lemmas.List.{length-map, drop_all}
use Rattle.serde_json.specs.declared.value.Value as json
use Rattle.json_value.specs.View.{kept_view}
use Rattle.json_value.specs.Value.{Value}
use Rattle.model_defs.specs.Types.{TypeModel}
use Rattle.model_defs.specs.Model.{FieldModel}
use Rattle.value_models.specs.declared.field.Field.{Field}
use Rattle.value_models.specs.FieldView.{field_view, fields_view}
use Rattle.value_parts.specs.At.{Entry, Demand, each, by_place, demand_at}
use Rattle.value_parts.proofs.Turns.{mapped_get, mapped_drop, mapped_past}
use Rattle.value_taking.specs.At.{Tables, part_at, in_front, demanded_from, field_at, fields_from}

-- ---- all pass, or one doesn't

pub one_passes : (was next b whole : Bool) → was ≡ (b && next) → b ≡ true → was ≡ whole → next ≡ whole
one_passes was next b whole e h w = sym (e ∙ ap (λ c. c && next) h) ∙ w

pub one_fails : (was next b whole : Bool) → was ≡ (b && next) → b ≡ false → was ≡ whole → false ≡ whole
one_fails was next b whole e h w = sym (e ∙ ap (λ c. c && next) h) ∙ w

pub all_pass : (was whole : Bool) → was ≡ true → was ≡ whole → true ≡ whole
all_pass was whole e w = sym e ∙ w

-- ---- some does, or none

pub other_turn : (was next b whole : Bool) → was ≡ (b || next) → b ≡ false → was ≡ whole → next ≡ whole
other_turn was next b whole e h w = sym (e ∙ ap (λ c. c || next) h) ∙ w

pub found_turn : (was next b whole : Bool) → was ≡ (b || next) → b ≡ true → was ≡ whole → true ≡ whole
found_turn was next b whole e h w = sym (e ∙ ap (λ c. c || next) h) ∙ w

-- ---- a list of types from a place on

abbrev held : {A : Type 0} → A → Option A → A
held d None = d
held d (Some x) = x

types_there : (ts : List TypeModel) (i : ℕ) (t : TypeModel) → Some t ≡ slice_get ts i → drop i ts ≡ t ∷ drop (suc i) ts
types_there [] i t h = absurd (none h)
  where
    none : Some t ≡ None → ⊥
    none e = true≢false (ap is_some e)
types_there (u ∷ ts) zero t h = ap (λ x. x ∷ ts) (sym (same h))
  where
    same : Some t ≡ Some u → t ≡ u
    same e = ap (held t) e
types_there (u ∷ ts) (suc i) t h = types_there ts i t h

types_past : (ts : List TypeModel) (i : ℕ) → None ≡ slice_get ts i → drop i ts ≡ []
types_past [] zero h = refl
types_past [] (suc i) h = refl
types_past (u ∷ ts) zero h = absurd (none h)
  where
    none : None ≡ Some u → ⊥
    none e = true≢false (sym (ap is_some e))
types_past (u ∷ ts) (suc i) h = types_past ts i h

-- as many fields as there are
pub fields_there : (fs : List FieldModel) (xs : List Field) → fields_view xs ≡ fs → length xs ≡ length fs
fields_there fs xs h = sym (length-map xs field_view) ∙ ap length h

module _ (s : Tables) where
  -- ---- items

  first_item : (d : Demand) (i : ℕ) (t : TypeModel) (v : Value) (vs : List Value) → Some t ≡ demand_at d i → demanded_from s d i (v ∷ vs) ≡ (part_at s t v && demanded_from s d (suc i) vs)
  first_item (each u) i t v vs h =
      let same : t ≡ u = ap (held t) h in
      ap (λ z. part_at s z v && demanded_from s (each u) (suc i) vs) (sym same)
  first_item (by_place ts) i t v vs h = ap (λ us. in_front s us (v ∷ vs)) (types_there ts i t h)

  pub item_step : (d : Demand) (vs : List json.Value) (i : ℕ) (t : TypeModel) (v : json.Value) (b : Bool) → i < length vs → v ≡ get_or vs i v → Some t ≡ demand_at d i → b ≡ part_at s t (kept_view v)
      → demanded_from s d i (map kept_view (drop i vs)) ≡ (b && demanded_from s d (i + 1) (map kept_view (drop (i + 1) vs)))
  item_step d vs i t v b h e g q =
      let next : suc i ≡ i + 1 = omega arith in
      ap (demanded_from s d i) (mapped_drop kept_view vs i v h e) ∙ first_item d i t (kept_view v) (map kept_view (drop (i + 1) vs)) g
      ∙ (λ j. sym q j && demanded_from s d (next j) (map kept_view (drop (i + 1) vs)))

  no_more : (ts : List TypeModel) → in_front s ts [] ≡ true
  no_more [] = refl
  no_more (t ∷ ts) = refl

  none_asked : (vs : List Value) → in_front s [] vs ≡ true
  none_asked [] = refl
  none_asked (v ∷ vs) = refl

  pub item_unasked : (d : Demand) (vs : List Value) (i : ℕ) → None ≡ demand_at d i → demanded_from s d i vs ≡ true
  item_unasked (each t) vs i h = absurd (none h)
    where
      none : None ≡ Some t → ⊥
      none e = true≢false (sym (ap is_some e))
  item_unasked (by_place ts) vs i h = ap (λ us. in_front s us vs) (types_past ts i h) ∙ none_asked vs

  no_items_left : (d : Demand) (i : ℕ) → demanded_from s d i [] ≡ true
  no_items_left (each t) i = refl
  no_items_left (by_place ts) i = no_more (drop i ts)

  pub items_end : (d : Demand) (vs : List json.Value) (i : ℕ) → length vs ≤ i → demanded_from s d i (map kept_view (drop i vs)) ≡ true
  items_end d vs i h = ap (demanded_from s d i) (mapped_past kept_view vs i h) ∙ no_items_left d i

  -- ---- fields

  pub field_step : (own : ℕ → List Entry) (un : List Entry) (fs : List FieldModel) (xs : List Field) (i : ℕ) (x : Field) (b : Bool) → fields_view xs ≡ fs → i < length xs → x ≡ get_or xs i x
      → b ≡ field_at s (field_view x) un (own i)
      → fields_from s own un i (drop i fs) ≡ (b && fields_from s own un (i + 1) (drop (i + 1) fs))
  field_step own un fs xs i x b f h e q =
      let next : suc i ≡ i + 1 = omega arith in
      ap (λ gs. fields_from s own un i (drop i gs)) (sym f) ∙ ap (fields_from s own un i) (dropped xs i ∙ mapped_drop field_view xs i x h e)
      ∙ (λ j. sym q j && fields_from s own un (next j) (fields_view (drop (i + 1) xs)))
      ∙ ap (λ gs. b && fields_from s own un (i + 1) gs) (sym (dropped xs (i + 1)) ∙ ap (drop (i + 1)) f)
    where
      dropped : (ys : List Field) (j : ℕ) → drop j (fields_view ys) ≡ fields_view (drop j ys)
      dropped [] zero = refl
      dropped [] (suc j) = refl
      dropped (y ∷ ys) zero = refl
      dropped (y ∷ ys) (suc j) = dropped ys j

  pub fields_end : (own : ℕ → List Entry) (un : List Entry) (fs : List FieldModel) (xs : List Field) (i : ℕ) → fields_view xs ≡ fs → length xs ≤ i → fields_from s own un i (drop i fs) ≡ true
  fields_end own un fs xs i f h =
      ap (fields_from s own un i) (drop_all i fs (omega (arith, ap length f, length-map xs field_view, h)))

-- ---- any list

module _ {X Y : Type 0} (view : X → Y) (test : Y → Bool) (xs : List X) (i : ℕ) where
  pub all_step : (d : X) (b : Bool) → i < length xs → b ≡ test (view (get_or xs i d)) → list_all test (map view (drop i xs)) ≡ (b && list_all test (map view (drop (i + 1) xs)))
  all_step d b h q = ap (list_all test) (mapped_get view xs i d h) ∙ ap (λ c. c && list_all test (map view (drop (i + 1) xs))) (sym q)

  pub all_end : length xs ≤ i → list_all test (map view (drop i xs)) ≡ true
  all_end h = ap (list_all test) (mapped_past view xs i h)

  pub any_step : (d : X) (b : Bool) → i < length xs → b ≡ test (view (get_or xs i d)) → list_any test (map view (drop i xs)) ≡ (b || list_any test (map view (drop (i + 1) xs)))
  any_step d b h q = ap (list_any test) (mapped_get view xs i d h) ∙ ap (λ c. c || list_any test (map view (drop (i + 1) xs))) (sym q)

  pub any_end : length xs ≤ i → list_any test (map view (drop i xs)) ≡ false
  any_end h = ap (list_any test) (mapped_past view xs i h)
