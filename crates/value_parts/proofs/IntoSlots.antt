-- Members sorted into slots.
use Rattle.std.proofs.Common.{◌≡◌, ℕ, zero, suc, ◌+◌, ◌<◌, ◌≤◌, List, [], ◌∷◌, ◌++◌, map, drop, set, length, get_or, filter, refl, sym, ap, ◌∙◌, arith, rules, Option, Some, None, is_some, Bool, true, false, cond, not, append_assoc, true≢false}
use Rattle.std.proofs.lemmas.List.{map-set, set_past, get_or-set_same, get_or-set_other, map-append, length-map, append-nil}
use Rattle.json_value.specs.Value.{Value, value_size}
use Rattle.model_defs.specs.Model.{FieldModel}
use Rattle.name_tables.specs.Names.{Names, place_of}
use Rattle.value_models.specs.Names.{is_place, is_same_place, field_names}
use Rattle.value_models.specs.declared.field.Field.{Field}
use Rattle.value_models.specs.FieldView.{field_view, fields_view}
use Rattle.value_parts.specs.declared.members.Member.{Member}
use Rattle.value_parts.specs.declared.slots.Slot.{Slot}
use Rattle.value_parts.specs.declared.slots.Slot.TheVariants as slots
use Rattle.value_models.specs.VariantView.{fields_in}
use Rattle.value_parts.specs.declared.sorted.Sorted.{Sorted}
use Rattle.value_parts.specs.SortedView.{IsSorted, sorted_names, sorted_entries}
use Rattle.value_parts.specs.At.{Entry}
use Rattle.value_parts.specs.Entries.{entry_view, entries_view, slot_view}
use Rattle.value_parts.specs.Slots.{first_two, entries_at, entries_without_place, added, added_if, slots_after, empty_slots, slot_or_none, entries_size}
use Rattle.value_parts.proofs.Turns.{mapped_get, mapped_past, one_more}

-- ---- empty slots

none_seen : (ss : List Slot) → map slot_view (ss ++ slots.Empty ∷ []) ≡ map slot_view ss ++ [] ∷ []
none_seen ss = map-append slot_view ss (slots.Empty ∷ [])

one_empty : (n : ℕ) → empty_slots n ++ [] ∷ [] ≡ empty_slots (suc n)
one_empty zero = refl
one_empty (suc n) = ap (λ ss. [] ∷ ss) (one_empty n)

pub empty_turn : (old new : List Slot) (i : ℕ) → map slot_view old ≡ empty_slots i → new ≡ old ++ slots.Empty ∷ [] → map slot_view new ≡ empty_slots (i + 1)
empty_turn old new i was n = ap (map slot_view) n ∙ none_seen old ∙ ap (λ ss. ss ++ [] ∷ []) was ∙ one_empty i ∙ ap empty_slots (let k : suc i ≡ i + 1 = omega arith in k)

pub empty_end : (fs : List Field) (ss : List Slot) (i : ℕ) → map slot_view ss ≡ empty_slots i → i ≤ length fs → length fs ≤ i → map slot_view ss ≡ empty_slots (length (fields_view fs))
empty_end fs ss i was a b = was ∙ ap empty_slots (let k : i ≡ length fs = omega arith in k ∙ sym (length-map fs field_view))

-- ---- one more member

pub slot_seen : (ss : List Slot) (p : ℕ) (d : Slot) → p < length ss → slot_or_none (map slot_view ss) p ≡ slot_view (get_or ss p d)
slot_seen [] p d h = absurd (omega (arith, h))
slot_seen (s ∷ ss) zero d h = refl
slot_seen (s ∷ ss) (suc p) d h = slot_seen ss p d (omega (arith, h))

pub slot_added : (ss new : List Slot) (p : ℕ) (d s : Slot) (e : Entry) → p < length ss → slot_view s ≡ first_two (slot_view (get_or ss p d) ++ e ∷ []) → new ≡ set ss p s
    → map slot_view new ≡ added p e (map slot_view ss)
slot_added ss new p d s e h v n =
    ap (map slot_view) n ∙ map-set slot_view ss p s ∙ ap (set (map slot_view ss) p) (v ∙ ap (λ t. first_two (t ++ e ∷ [])) (sym (slot_seen ss p d h)))

pub slot_behind : (ss : List Slot) (p : ℕ) (e : Entry) → length ss ≤ p → map slot_view ss ≡ added p e (map slot_view ss)
slot_behind ss p e h =
    let l : length (map slot_view ss) ≤ p = omega (arith, length-map ss slot_view, h) in
    sym (set_past (map slot_view ss) p (first_two (slot_or_none (map slot_view ss) p ++ e ∷ [])) l)

-- ---- the turns of sorting

module _ (names : Names) (ms : List Member) where
  pub slots_turn : (i : ℕ) (d : Member) (o : Option ℕ) (ss new w : List (List Entry)) → i < length ms → o ≡ place_of (get_or ms i d).name.now names → new ≡ added_if o (entry_view (get_or ms i d)) ss
      → slots_after names (entries_view (drop i ms)) ss ≡ w → slots_after names (entries_view (drop (i + 1) ms)) new ≡ w
  slots_turn i d o ss new w h p n was =
      ap (slots_after names (entries_view (drop (i + 1) ms))) (n ∙ ap (λ q. added_if q (entry_view (get_or ms i d)) ss) p)
      ∙ ap (λ es. slots_after names es ss) (sym (mapped_get entry_view ms i d h)) ∙ was

  pub slots_end : (i : ℕ) (ss w : List (List Entry)) → length ms ≤ i → slots_after names (entries_view (drop i ms)) ss ≡ w → ss ≡ w
  slots_end i ss w h was = ap (λ es. slots_after names es ss) (sym (mapped_past entry_view ms i h)) ∙ was

  left_step : (i : ℕ) (d : Member) (o : Option ℕ) → i < length ms → o ≡ place_of (get_or ms i d).name.now names
      → entries_without_place names (entries_view (drop i ms)) ≡ cond (not (is_some o)) (entry_view (get_or ms i d) ∷ entries_without_place names (entries_view (drop (i + 1) ms))) (entries_without_place names (entries_view (drop (i + 1) ms)))
  left_step i d o h p =
      ap (entries_without_place names) (mapped_get entry_view ms i d h)
      ∙ ap (λ q. cond (not (is_some q)) (entry_view (get_or ms i d) ∷ entries_without_place names (entries_view (drop (i + 1) ms))) (entries_without_place names (entries_view (drop (i + 1) ms)))) (sym p)

  pub unnamed_kept : (i : ℕ) (d : Member) (old new : List Member) (w : List Entry) → i < length ms → None ≡ place_of (get_or ms i d).name.now names → new ≡ old ++ get_or ms i d ∷ []
      → entries_view old ++ entries_without_place names (entries_view (drop i ms)) ≡ w → entries_view new ++ entries_without_place names (entries_view (drop (i + 1) ms)) ≡ w
  unnamed_kept i d old new w h p n was =
      one_more entry_view old new (get_or ms i d) (entries_without_place names (entries_view (drop (i + 1) ms))) w n
      (ap (λ es. entries_view old ++ es) (sym (left_step i d None h p)) ∙ was)

  pub unnamed_dropped : (i : ℕ) (d : Member) (q : ℕ) (old : List Member) (w : List Entry) → i < length ms → Some q ≡ place_of (get_or ms i d).name.now names
      → entries_view old ++ entries_without_place names (entries_view (drop i ms)) ≡ w → entries_view old ++ entries_without_place names (entries_view (drop (i + 1) ms)) ≡ w
  unnamed_dropped i d q old w h p was = ap (λ es. entries_view old ++ es) (sym (left_step i d (Some q) h p)) ∙ was

  pub unnamed_end : (i : ℕ) (new : List Member) (w : List Entry) → length ms ≤ i
      → entries_view new ++ entries_without_place names (entries_view (drop i ms)) ≡ w → entries_view new ≡ w
  unnamed_end i new w h was = sym (append-nil (entries_view new)) ∙ ap (λ es. entries_view new ++ entries_without_place names es) (sym (mapped_past entry_view ms i h)) ∙ was

-- ---- what a slot has

first_two_once : (a b : List Entry) → first_two (first_two a ++ b) ≡ first_two (a ++ b)
first_two_once [] b = refl
first_two_once (x ∷ []) b = refl
first_two_once (x ∷ y ∷ a) b = refl

-- a slot and the members of its place that are still to come
abbrev joined : ℕ → Names → List Entry → List Entry → List Entry
joined i names s es = first_two (s ++ entries_at i names es)

same_is : (i j : ℕ) → i ≡ j → is_same_place i j ≡ true
same_is zero zero e = refl
same_is zero (suc j) e = absurd (omega (arith, e))
same_is (suc i) zero e = absurd (omega (arith, e))
same_is (suc i) (suc j) e = same_is i j (omega (arith, e))

same_place : (i j : ℕ) → is_same_place i j ≡ true → i ≡ j
same_place zero zero h = refl
same_place zero (suc j) h = absurd (true≢false (sym h))
same_place (suc i) zero h = absurd (true≢false (sym h))
same_place (suc i) (suc j) h = ap suc (same_place i j h)

length-set' : {A : Type 0} (xs : List A) (i : ℕ) (y : A) → length (set xs i y) ≡ length xs
length-set' [] i y = refl
length-set' (x ∷ xs) zero y = refl
length-set' (x ∷ xs) (suc i) y = ap suc (length-set' xs i y)

module _ (names : Names) (i : ℕ) where
  here : (e : Entry) (es : List Entry) (s : List Entry) → is_place i (place_of e.0 names) ≡ true → joined i names (first_two (s ++ e ∷ [])) es ≡ joined i names s (e ∷ es)
  here e es s t =
      first_two_once (s ++ e ∷ []) (entries_at i names es) ∙ ap first_two (append_assoc s (e ∷ []) (entries_at i names es))
      ∙ ap (λ b. first_two (s ++ cond b (e ∷ entries_at i names es) (entries_at i names es))) (sym t)

  elsewhere : (e : Entry) (es : List Entry) (s : List Entry) → is_place i (place_of e.0 names) ≡ false → joined i names s es ≡ joined i names s (e ∷ es)
  elsewhere e es s t = ap (λ b. first_two (s ++ cond b (e ∷ entries_at i names es) (entries_at i names es))) (sym t)

  one_step : (e : Entry) (es : List Entry) (ss : List (List Entry)) → i < length ss → (o : Option ℕ) → place_of e.0 names ≡ o
      → joined i names (slot_or_none (added_if o e ss) i) es ≡ joined i names (slot_or_none ss i) (e ∷ es)
  one_step e es ss h None p = elsewhere e es (slot_or_none ss i) (ap (is_place i) p)
  one_step e es ss h (Some j) p = by (is_same_place i j) refl
    where
      by : (b : Bool) → is_same_place i j ≡ b → joined i names (slot_or_none (added j e ss) i) es ≡ joined i names (slot_or_none ss i) (e ∷ es)
      by true t =
          let k : i ≡ j = same_place i j t in
          ap (λ q. joined i names (slot_or_none (added q e ss) i) es) (sym k)
          ∙ ap (λ s. joined i names s es) (get_or-set_same ss i (first_two (slot_or_none ss i ++ e ∷ [])) [] h)
          ∙ here e es (slot_or_none ss i) (ap (is_place i) p ∙ t)
      by false t =
          let k : i ≡ j → ⊥ = λ q. true≢false (sym (same_is i j q) ∙ t) in
          ap (λ s. joined i names s es) (get_or-set_other ss j i (first_two (slot_or_none ss j ++ e ∷ [])) [] k)
          ∙ elsewhere e es (slot_or_none ss i) (ap (is_place i) p ∙ t)

  added_length : (e : Entry) (ss : List (List Entry)) (o : Option ℕ) → length (added_if o e ss) ≡ length ss
  added_length e ss None = refl
  added_length e ss (Some j) = length-set' ss j (first_two (slot_or_none ss j ++ e ∷ []))

  after : (es : List Entry) (ss : List (List Entry)) → i < length ss → first_two (slot_or_none (slots_after names es ss) i ++ []) ≡ joined i names (slot_or_none ss i) es
  after [] ss h = refl
  after (e ∷ es) ss h =
      after es (added_if (place_of e.0 names) e ss) (omega (arith, added_length e ss (place_of e.0 names), h)) ∙ one_step e es ss h (place_of e.0 names) refl

empty_length : (n : ℕ) → length (empty_slots n) ≡ n
empty_length zero = refl
empty_length (suc n) = ap suc (empty_length n)

no_slot : (n i : ℕ) → slot_or_none (empty_slots n) i ≡ []
no_slot zero i = refl
no_slot (suc n) zero = refl
no_slot (suc n) (suc i) = no_slot n i

seen_two : (s : Slot) → first_two (slot_view s ++ []) ≡ slot_view s
seen_two slots.Empty = refl
seen_two (slots.One m) = refl
seen_two (slots.Two m n) = refl

-- each slot has the members of its place, as many as decide
pub slot_is : (names : Names) (es : List Entry) (n i : ℕ) (ss : List Slot) (d : Slot) → map slot_view ss ≡ slots_after names es (empty_slots n) → i < n → i < length ss
    → slot_view (get_or ss i d) ≡ first_two (entries_at i names es)
slot_is names es n i ss d h l k =
    sym (seen_two (get_or ss i d))
    ∙ ap (λ s. first_two (s ++ [])) (sym (slot_seen ss i d k))
    ∙ ap (λ ts. first_two (slot_or_none ts i ++ [])) h
    ∙ after names i es (empty_slots n) (omega (arith, empty_length n, l))
    ∙ ap (λ s. first_two (s ++ entries_at i names es)) (no_slot n i)

pub slots_length : (names : Names) (es : List Entry) (n : ℕ) (ss : List Slot) → map slot_view ss ≡ slots_after names es (empty_slots n) → length ss ≡ n
slots_length names es n ss h = sym (length-map ss slot_view) ∙ ap length h ∙ kept es (empty_slots n) ∙ empty_length n
  where
    kept : (ds : List Entry) (ts : List (List Entry)) → length (slots_after names ds ts) ≡ length ts
    kept [] ts = refl
    kept (e ∷ ds) ts = kept ds (added_if (place_of e.0 names) e ts) ∙ added_length names 0 e ts (place_of e.0 names)

-- ---- sizes

size_if : (b : Bool) (e : Entry) (ds es : List Entry) → entries_size ds ≤ entries_size es → entries_size (cond b (e ∷ ds) ds) ≤ entries_size (e ∷ es)
size_if true e ds es h = omega (arith, h)
size_if false e ds es h = omega (arith, h)

filter_small : (p : Entry → Bool) (es : List Entry) → entries_size (filter p es) ≤ entries_size es
filter_small p [] = omega arith
filter_small p (e ∷ es) = size_if (p e) e (filter p es) es (filter_small p es)

two_small : (es : List Entry) → entries_size (first_two es) ≤ entries_size es
two_small [] = omega arith
two_small (d ∷ []) = omega arith
two_small (d ∷ e ∷ es) = omega arith

pub at_small : (i : ℕ) (names : Names) (es : List Entry) → entries_size (first_two (entries_at i names es)) ≤ entries_size es
at_small i names es = omega (arith, two_small (entries_at i names es), filter_small (λ e. is_place i (place_of e.0 names)) es)

pub unnamed_small : (names : Names) (es : List Entry) → entries_size (entries_without_place names es) ≤ entries_size es
unnamed_small names es = filter_small (λ e. not (is_some (place_of e.0 names))) es

pub is_sorted : (s : Sorted) → map slot_view s.slots.items ≡ slots_after (sorted_names s) (sorted_entries s) (empty_slots (length (fields_in s.fields.now)))
    → entries_view s.unnamed.items ≡ entries_without_place (sorted_names s) (sorted_entries s) → IsSorted s
is_sorted s h g = record { slotted = h; apart = g }
