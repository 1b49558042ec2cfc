-- A value has a place of a number that is no i64 exactly where not all of its numbers are i64.
use Rattle.std.proofs.Common.{◌≡◌, ℕ, suc, ◌+◌, ◌<◌, length, get_or, drop, string_bytes, add-one, Bool, true, false, not, ◌&&◌, true≢false, Option, Some, None, option_map, refl, sym, ap, ◌∙◌, List, [], ◌∷◌}
use Rattle.std.specs.Prelude.{is_some, ◌↔◌, if◌then◌else◌}
use Rattle.std.proofs.lemmas.List.{drop_more}
use Rattle.serde_json.specs.View.{view, items_view, members_view}
use Rattle.serde_json.specs.declared.value.Value.{Value as Read}
use Rattle.serde_json.proofs.Views.{Entry}
use Rattle.json_value.specs.View.{value_of, items_of, members_of}
use Rattle.json_value.specs.Value.{Value, Items, Members, null, boolean, number, fraction, text, list, object, no_items, item, no_members, member}
use Rattle.schema_defs.specs.Location.{Step, Location, place}
use Rattle.schema_faults.specs.Faults.{Place}
use Rattle.schema_tree.specs.Numbers.{fits_i64, holds_i64_alone, items_hold_i64_alone, members_hold_i64_alone, below, first_of, wide_place, wide_place_of_items, wide_place_of_members, WidePlacesAreExact}

by_fit : (b : Bool) → is_some {T = Location} (if b then None else Some []) ≡ not b
by_fit true = refl
by_fit false = refl

either : (k : Step) (o p : Option Location) (a b : Bool) → is_some o ≡ not a → is_some p ≡ not b → is_some (first_of (below k o) p) ≡ not (a && b)
either k None p true b h g = g
either k None p false b h g = absurd (true≢false (sym h))
either k (Some l) p true b h g = absurd (true≢false h)
either k (Some l) p false b h g = refl

mutual
  wide : (v : Value) → is_some (wide_place v) ≡ not (holds_i64_alone v)
  wide null = refl
  wide (boolean b) = refl
  wide (number z) = by_fit (fits_i64 z)
  wide fraction = refl
  wide (text s) = refl
  wide (list vs) = wide_among 0 vs
  wide (object ms) = wide_members ms

  wide_among : (i : ℕ) (vs : Items) → is_some (wide_place_of_items i vs) ≡ not (items_hold_i64_alone vs)
  wide_among i no_items = refl
  wide_among i (item v vs) = either (place i) (wide_place v) _ (holds_i64_alone v) (items_hold_i64_alone vs) (wide v) (wide_among (suc i) vs)

  wide_members : (ms : Members) → is_some (wide_place_of_members ms) ≡ not (members_hold_i64_alone ms)
  wide_members no_members = refl
  wide_members (member k v ms) = either k (wide_place v) _ (holds_i64_alone v) (members_hold_i64_alone ms) (wide v) (wide_members ms)

by_place : (o : Option Location) (b : Bool) → is_some o ≡ not b → (o ≡ None) ↔ (b ≡ true)
by_place None true h = (λ e. refl, λ e. refl)
by_place None false h = absurd (true≢false (sym h))
by_place (Some l) true h = absurd (true≢false h)
by_place (Some l) false h = (λ e. cc, λ e. absurd (true≢false (sym e)))

pub wide_exact : WidePlacesAreExact
wide_exact v = by_place (wide_place v) (holds_i64_alone v) (wide v)

-- ---- one more item or member

-- a place that is found is told without a text
abbrev pub found : Option Location → Option Place
found o = option_map (λ l. (l, [])) o

found_here : (k : Step) (o r : Option Location) (p : Place) → Some p ≡ found o → found (first_of (below k o) r) ≡ Some (k ∷ p.0, p.1)
found_here k None r p h = cc
found_here k (Some l) r p h = let e : (l, []) ≡ p = cc in ap (λ q. let z : Place = (k ∷ q.0, q.1) in Some z) e

found_later : (k : Step) (o r : Option Location) → None ≡ found o → found (first_of (below k o) r) ≡ found r
found_later k None r h = refl
found_later k (Some l) r h = cc

module _ (vs : List Read) (i : ℕ) (x : Read) (lt : i < length vs) (is : x ≡ get_or vs i x) where
  abbrev items_from : ℕ → List Read → Option Place
  items_from j ws = found (wide_place_of_items j (items_of (items_view ws)))

  split : drop i vs ≡ x ∷ drop (i + 1) vs
  split = drop_more vs i x lt ∙ ap (λ z. z ∷ drop (i + 1) vs) (sym is)

  pub item_found : (p : Place) → Some p ≡ found (wide_place (value_of (view x))) → items_from i (drop i vs) ≡ Some (place i ∷ p.0, p.1)
  item_found p h = ap (items_from i) split ∙ found_here (place i) (wide_place (value_of (view x))) _ p h

  pub item_passed : None ≡ found (wide_place (value_of (view x))) → items_from i (drop i vs) ≡ items_from (i + 1) (drop (i + 1) vs)
  item_passed h =
      ap (items_from i) split ∙ found_later (place i) (wide_place (value_of (view x))) (wide_place_of_items (suc i) (items_of (items_view (drop (i + 1) vs)))) h
      ∙ ap (λ j. items_from j (drop (i + 1) vs)) (sym (add-one i))

module _ (e : Entry) (es : List Entry) where
  abbrev members_from : List Entry → Option Place
  members_from fs = found (wide_place_of_members (members_of (members_view fs)))

  pub member_found : (p : Place) → Some p ≡ found (wide_place (value_of (view e.1))) → members_from (e ∷ es) ≡ Some (string_bytes e.0 ∷ p.0, p.1)
  member_found p h = found_here (string_bytes e.0) (wide_place (value_of (view e.1))) (wide_place_of_members (members_of (members_view es))) p h

  pub member_passed : None ≡ found (wide_place (value_of (view e.1))) → members_from (e ∷ es) ≡ members_from es
  member_passed h = found_later (string_bytes e.0) (wide_place (value_of (view e.1))) (wide_place_of_members (members_of (members_view es))) h
