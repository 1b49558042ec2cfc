-- One step of each loop.
use Rattle.std.proofs.Common.{◌≡◌, ℕ, suc, ◌+◌, ◌<◌, ◌≤◌, List, [], ◌∷◌, length, drop, get_or, Bool, true, false, ◌||◌, bytes_eq, Option, Some, None, refl, sym, ap, ◌∙◌}
use Rattle.std.proofs.lemmas.List.{drop_more, drop_all}
use Rattle.serde_json.specs.View.{items_view}
use Rattle.serde_json.specs.declared.value.Value.{Value as Json}
use Rattle.json_value.specs.Value.{item, item_count}
use Rattle.json_value.specs.View.{items_of, kept_view}
use Rattle.entry_defs.specs.Entry.{FieldEntry, entries_of, next_entry, next_field}
use Rattle.entry_defs.specs.Layer.{is_field}
use Rattle.tree_types.specs.View.{label_view}
use Rattle.tree_types.specs.declared.tree.Tree.{Tree}
use Rattle.default_reading.specs.Seen.{Part, entry_of, first_tree, fields_in, listed, or_else, places_in, state_in}

-- ---- items

pub items_turn : (ws vs : List Json) (i : ℕ) (v : Json) → ws ≡ vs → i < length ws → v ≡ get_or ws i v → items_of (items_view (drop i vs)) ≡ item (kept_view v) (items_of (items_view (drop (i + 1) vs)))
items_turn ws vs i v e h is =
    ap (λ ys. items_of (items_view (drop i ys))) (sym e) ∙ ap (λ ys. items_of (items_view ys)) (drop_more ws i v h ∙ ap (λ z. z ∷ drop (i + 1) ws) (sym is)) ∙ ap (λ ys. item (kept_view v) (items_of (items_view (drop (i + 1) ys)))) e

pub items_counted : (vs : List Json) → length vs ≡ item_count (items_of (items_view vs))
items_counted [] = refl
items_counted (v ∷ vs) = ap suc (items_counted vs)

-- ---- the next of a list

pub next_part : (xs : List Part) (i : ℕ) (p : Part) → i < length xs → p ≡ get_or xs i p → drop i xs ≡ p ∷ drop (i + 1) xs
next_part xs i p h is = drop_more xs i p h ∙ ap (λ z. z ∷ drop (i + 1) xs) (sym is)

-- ---- fields

next_is : (ps : List Part) (o : Option Tree) → next_field (fields_in ps o) ≡ entry_of (or_else (first_tree ps) o)
next_is [] None = refl
next_is [] (Some x) = refl
next_is ((h, None) ∷ ps) o = next_is ps o
next_is ((h, Some x) ∷ ps) o = refl

abbrev pub field_of : Part → Option Tree → FieldEntry
field_of p o = record { identifier = label_view p.0.label; name = p.0.label.wanted.now; entry = entry_of o; state = state_in p }

pub one_listed : (p : Part) (ps : List Part) (o : Option Tree) → listed (p ∷ ps) o ≡ field_of p (or_else (first_tree (p ∷ ps)) o) ∷ listed ps o
one_listed (h, None) ps o = ap (λ e. record { identifier = label_view h.label; name = h.label.wanted.now; entry = e; state = state_in (h, None) } ∷ listed ps o) (next_is ps o)
one_listed (h, Some x) ps o = refl

pub none_listed : (o : Option Tree) → listed [] o ≡ []
none_listed None = refl
none_listed (Some x) = refl

-- ---- places

next_place : (ps : List Part) → next_entry (places_in ps) ≡ entry_of (first_tree ps)
next_place [] = refl
next_place ((h, None) ∷ ps) = next_place ps
next_place ((h, Some x) ∷ ps) = refl

pub one_placed : (p : Part) (ps : List Part) → entries_of (places_in (p ∷ ps)) ≡ entry_of (first_tree (p ∷ ps)) ∷ entries_of (places_in ps)
one_placed (h, None) ps = ap (λ e. e ∷ entries_of (places_in ps)) (next_place ps)
one_placed (h, Some x) ps = refl

pub places_counted : (ps : List Part) → length (entries_of (places_in ps)) ≡ length ps
places_counted [] = refl
places_counted ((h, None) ∷ ps) = ap suc (places_counted ps)
places_counted ((h, Some x) ∷ ps) = ap suc (places_counted ps)

-- ---- the first tree from a place on

module _ (xs : List Part) (place i : ℕ) (same : first_tree (drop place xs) ≡ first_tree (drop i xs)) where
  pub found_here : (p : Part) (x : Tree) → i < length xs → p ≡ get_or xs i p → p.1 ≡ Some x → Some x ≡ first_tree (drop place xs)
  found_here (h, None) x l is e = absurd (cc)
  found_here (h, Some y) x l is e = sym (same ∙ ap first_tree (next_part xs i (h, Some y) l is) ∙ e)

  pub found_later : (p : Part) → i < length xs → p ≡ get_or xs i p → p.1 ≡ None → first_tree (drop place xs) ≡ first_tree (drop (i + 1) xs)
  found_later (h, None) l is e = same ∙ ap first_tree (next_part xs i (h, None) l is)
  found_later (h, Some y) l is e = absurd (cc)

  pub found_none : length xs ≤ i → None ≡ first_tree (drop place xs)
  found_none l = sym (same ∙ ap first_tree (drop_all i xs l))

-- ---- a field of a name

module _ (n : List ℕ) (xs : List Part) (i : ℕ) (same : (o : Option Tree) → is_field (listed xs o) n ≡ is_field (listed (drop i xs) o) n) where
  one_field : (p : Part) (o : Option Tree) → i < length xs → p ≡ get_or xs i p → is_field (listed (drop i xs) o) n ≡ (bytes_eq p.0.label.wanted.now n || is_field (listed (drop (i + 1) xs) o) n)
  one_field p o l is = ap (λ ys. is_field (listed ys o) n) (next_part xs i p l is) ∙ ap (λ fs. is_field fs n) (one_listed p (drop (i + 1) xs) o)

  pub field_here : (p : Part) (b : Bool) → i < length xs → p ≡ get_or xs i p → b ≡ bytes_eq p.0.label.wanted.now n → b ≡ true → (o : Option Tree) → true ≡ is_field (listed xs o) n
  field_here p b l is e t o = sym (same o ∙ one_field p o l is ∙ ap (λ c. c || is_field (listed (drop (i + 1) xs) o) n) (sym e ∙ t))

  pub field_later : (p : Part) (b : Bool) → i < length xs → p ≡ get_or xs i p → b ≡ bytes_eq p.0.label.wanted.now n → b ≡ false → (o : Option Tree) → is_field (listed xs o) n ≡ is_field (listed (drop (i + 1) xs) o) n
  field_later p b l is e t o = same o ∙ one_field p o l is ∙ ap (λ c. c || is_field (listed (drop (i + 1) xs) o) n) (sym e ∙ t)

  pub field_none : length xs ≤ i → (o : Option Tree) → false ≡ is_field (listed xs o) n
  field_none l o = sym (same o ∙ ap (λ ys. is_field (listed ys o) n) (drop_all i xs l) ∙ ap (λ fs. is_field fs n) (none_listed o))
