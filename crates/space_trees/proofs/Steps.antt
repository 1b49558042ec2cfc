-- Targets and trees one after another, and where they lead.
use Rattle.std.proofs.Common.{◌≡◌, string_bytes, ℕ, suc, ◌+◌, ◌<◌, ◌≤◌, List, [], ◌∷◌, map, drop, length, get_or, drop-cons, Bool, true, false, cond, bytes_eq, true≢false, Option, Some, None, refl, sym, ap, ◌∙◌, arith}
use Rattle.std.specs.Prelude.{is_some, if◌then◌else◌}
use Rattle.std.proofs.lemmas.Map.Text.{btree_map_updates_text}
use Rattle.std.proofs.lemmas.Slice.Eq.{bytes_eq-Decides}
use Rattle.std.specs.BTreeMap.{BTreeMap, UpdatesBy, get_by_text, is_at}
use Rattle.std.specs.Cmp.Lexicographic.{slice_cmp}
use Rattle.std.specs.Map.{lookup}
use Rattle.std.specs.Ordering.{nat_cmp}
use Rattle.std.specs.String.{string_cmp}
use Rattle.std.specs.declared.string.String.{String}
use Rattle.space_trees.proofs.Distinct.{turned}
use Rattle.std.proofs.lemmas.List.{drop_all}
use Rattle.entry_defs.specs.Entry.{Target, the_root, definition, Entry, reference, item}
use Rattle.entry_defs.specs.Space.{Id, newtype_shape_at, reference_at, Space}
use Rattle.entry_defs.specs.Table.{TargetEntry, Table, same_target}
use Rattle.entry_space.specs.Entered.{filled}
use Rattle.tree_types.specs.View.{item_in, item_entry}
use Rattle.space_trees.specs.Placed.{put, rest_or_first, placed}
use Rattle.space_trees.specs.Filled.{led_from, ids_in, opened_targets, filled_targets, placed_targets, placed_tree, placed_rest, placed_trees, placed_table}
use Rattle.space_trees.specs.Leading.{found_led, ids_of, or_led, led_once}
use Rattle.space_trees.specs.declared.led.Led.{Led}
use Rattle.space_trees.specs.Parts.{is_item_entry, reference_in}

pub dropped : {X Y : Type 0} (f : X → Y) (xs : List X) (i : ℕ) (x : X) → i < length xs → x ≡ get_or xs i x → map f (drop i xs) ≡ f x ∷ map f (drop (i + 1) xs)
dropped f xs i x h e =
    ap (map f) (drop-cons xs i x h) ∙ ap (λ y. f y ∷ map f (drop (suc i) xs)) (sym e) ∙ ap (λ n. f x ∷ map f (drop n xs)) (let k : suc i ≡ i + 1 = omega arith in k)

-- ---- a loop that makes a space of a list

module _ {X V S : Type 0} (f : X → V) (all : List V → S → S) (step : V → S → S) (more : (v : V) (vs : List V) (s : S) → all (v ∷ vs) s ≡ all vs (step v s)) (none : (s : S) → all [] s ≡ s) where
  pub turn : (xs : List X) (i : ℕ) (x : X) (s t w : S) → i < length xs → x ≡ get_or xs i x → t ≡ step (f x) s → all (map f (drop i xs)) s ≡ w → all (map f (drop (i + 1) xs)) t ≡ w
  turn xs i x s t w h e made was =
      ap (all (map f (drop (i + 1) xs))) made ∙ sym (ap (λ z. all z s) (dropped f xs i x h e) ∙ more (f x) (map f (drop (i + 1) xs)) s) ∙ was

  pub end : (xs : List X) (i : ℕ) (s w : S) → length xs ≤ i → all (map f (drop i xs)) s ≡ w → s ≡ w
  end xs i s w h was = sym (none s) ∙ ap (λ z. all (map f z) s) (sym (drop_all i xs h)) ∙ was

-- one that counts the places
module _ {X V S : Type 0} (f : X → V) (all : ℕ → List V → S → S) (step : ℕ → V → S → S) (more : (i : ℕ) (v : V) (vs : List V) (s : S) → all i (v ∷ vs) s ≡ all (suc i) vs (step i v s)) (none : (i : ℕ) (s : S) → all i [] s ≡ s) where
  pub counted_turn : (xs : List X) (i k : ℕ) (x : X) (s t w : S) → i < length xs → x ≡ get_or xs i x → t ≡ step k (f x) s → all k (map f (drop i xs)) s ≡ w → all (k + 1) (map f (drop (i + 1) xs)) t ≡ w
  counted_turn xs i k x s t w h e made was =
      ap (all (k + 1) (map f (drop (i + 1) xs))) made ∙ ap (λ n. all n (map f (drop (i + 1) xs)) (step k (f x) s)) (let m : k + 1 ≡ suc k = omega arith in m)
      ∙ sym (ap (λ z. all k z s) (dropped f xs i x h e) ∙ more k (f x) (map f (drop (i + 1) xs)) s) ∙ was

  pub counted_end : (xs : List X) (i k : ℕ) (s w : S) → length xs ≤ i → all k (map f (drop i xs)) s ≡ w → s ≡ w
  counted_end xs i k s w h was = sym (none k s) ∙ ap (λ z. all k (map f z) s) (sym (drop_all i xs h)) ∙ was

-- ---- where references lead

or-first : (a : Option Id) (b : Bool) (i : Id) (c : Option Id) → or_led (or_led a (if b then Some i else None)) c ≡ or_led a (if b then Some i else c)
or-first None true i c = refl
or-first None false i c = refl
or-first (Some j) true i c = refl
or-first (Some j) false i c = refl

pub or-none : (a : Option Id) → or_led a None ≡ a
or-none None = refl
or-none (Some i) = refl

-- the first place of a key counts
pub kept_first : {Y : Type 0} (m : BTreeMap (String Y) Id) (key : List ℕ) (p : Id) (there : Bool) → there ≡ is_some (get_by_text m key) → there ≡ true
    → (k : List ℕ) → get_by_text m k ≡ or_led (get_by_text m k) (if bytes_eq k key then Some p else None)
kept_first m key p there h t k = by (bytes_eq k key) refl (get_by_text m k) refl
  where
    by : (b : Bool) → bytes_eq k key ≡ b → (o : Option Id) → get_by_text m k ≡ o → o ≡ or_led o (if b then Some p else None)
    by b q (Some i) e = refl
    by false q None e = refl
    by true q None e = absurd (true≢false (sym t ∙ h ∙ ap is_some (ap (get_by_text m) (sym ((bytes_eq-Decides k key).0 q)) ∙ e)))

pub added : {Y : Type 0} (m n : BTreeMap (String Y) Id) (bs key : List ℕ) (p : Id) (there : Bool) → there ≡ is_some (get_by_text m key) → there ≡ false → bs ≡ key
    → UpdatesBy string_cmp (λ k. slice_cmp nat_cmp bs (string_bytes k)) m n (Some p) → (k : List ℕ) → get_by_text n k ≡ or_led (get_by_text m k) (if bytes_eq k key then Some p else None)
added m n bs key p there h t d u k =
    btree_map_updates_text bs m n (Some p) u k ∙ ap (λ b. cond b (Some p) (get_by_text m k)) (ap (λ z. bytes_eq z k) d ∙ turned key k) ∙ by (bytes_eq k key) refl (get_by_text m k) refl
  where
    by : (b : Bool) → bytes_eq k key ≡ b → (o : Option Id) → get_by_text m k ≡ o → cond b (Some p) o ≡ or_led o (if b then Some p else None)
    by true q None e = refl
    by false q None e = refl
    by false q (Some i) e = refl
    by true q (Some i) e = absurd (true≢false (ap is_some (sym e ∙ ap (get_by_text m) ((bytes_eq-Decides k key).0 q)) ∙ sym h ∙ t))

pub root_added : (l new : Led) (p : Id) → new.definitions ≡ l.definitions → new.root ≡ or_led l.root (Some p) → (q : Target) → found_led new q ≡ or_led (found_led l q) (led_once the_root p q)
root_added l new p d r the_root = r
root_added l new p d r (definition k) = ap (λ m. get_by_text m k) d ∙ sym (or-none (get_by_text l.definitions k))

pub definition_added : (l new : Led) (bs key : List ℕ) (p : Id) → new.root ≡ l.root → bs ≡ key → ((k : List ℕ) → get_by_text new.definitions k ≡ or_led (get_by_text l.definitions k) (if bytes_eq k bs then Some p else None))
    → (q : Target) → found_led new q ≡ or_led (found_led l q) (led_once (definition key) p q)
definition_added l new bs key p r d m the_root = r ∙ sym (or-none l.root)
definition_added l new bs key p r d m (definition k) = m k ∙ ap (λ z. or_led (get_by_text l.definitions k) (if bytes_eq k z then Some p else None)) d

pub found_by : {Y : Type 0} (m : BTreeMap (String Y) Id) (bs key : List ℕ) (o : Option Id) → bs ≡ key → o ≡ get_by_text m bs → o ≡ get_by_text m key
found_by m bs key o d h = h ∙ ap (get_by_text m) d

pub none_led : (l : Led) → l.definitions.entries ≡ [] → l.root ≡ None → (q : Target) → found_led l q ≡ None
none_led l d r the_root = r
none_led l d r (definition k) = ap (lookup (is_at (λ j. slice_cmp nat_cmp k (string_bytes j)))) d

pub led_begin : (l : Led) (ts : List TargetEntry) → ((q : Target) → found_led l q ≡ None) → (q : Target) → or_led (found_led l q) (led_from 0 ts q) ≡ led_from 0 ts q
led_begin l ts e q = ap (λ o. or_led o (led_from 0 ts q)) (e q)

pub led_turn : (t : TargetEntry) (ts : List TargetEntry) (i : ℕ) (q : Target) (old new : Option Id) (w : Option Id) → new ≡ or_led old (led_once t.target i q)
    → or_led old (led_from i (t ∷ ts) q) ≡ w → or_led new (led_from (suc i) ts q) ≡ w
led_turn t ts i q old new w made was = ap (λ z. or_led z (led_from (suc i) ts q)) made ∙ or-first old (same_target q t.target) i (led_from (suc i) ts q) ∙ was

-- ---- trees of targets

item-again : (e : Entry) → is_item_entry e ≡ true → item_entry (item_in e) ≡ e
item-again (item n h) q = refl
item-again e q = absurd (true≢false (sym q))

pub item_again : (ids : Target → Id) (i j : Id) (e : Entry) (s t : Space) (b : Bool) → b ≡ is_item_entry e → b ≡ true → placed ids (Some i) e s ≡ (t, j)
    → t ≡ (placed ids (Some i) (item_entry (item_in e)) s).0
item_again ids i j e s t b d q h = ap (λ (a : Space × Id). a.0) (sym h) ∙ ap (λ z. (placed ids (Some i) z s).0) (sym (item-again e (sym d ∙ q)))

item-around : (ids : Target → Id) (i : Id) (e : Entry) (s : Space) → is_item_entry e ≡ false
    → (placed ids (Some i) (item_entry (item_in e)) s).0 ≡ filled i (newtype_shape_at (placed ids None e s).1 None) (placed ids None e s).0
item-around ids i (item n h) s q = absurd (true≢false q)
item-around ids i e s q = refl

pub item_around : (ids : Target → Id) (i j : Id) (e : Entry) (s t u : Space) (b : Bool) → b ≡ is_item_entry e → b ≡ false → placed ids None e s ≡ (t, j) → u ≡ filled i (newtype_shape_at j None) t
    → u ≡ (placed ids (Some i) (item_entry (item_in e)) s).0
item_around ids i j e s t u b d q h f =
    f ∙ ap (λ (a : Space × Id). filled i (newtype_shape_at a.1 None) a.0) (sym h) ∙ sym (item-around ids i e s (sym d ∙ q))

-- ---- references

abbrev led-of : Led → Option Target → Option Id
led-of l None = None
led-of l (Some q) = found_led l q

pub reference_placed : (l : Led) (q : Target) (i : Id) (s : Space) (w : Space × Id) → Some i ≡ found_led l q → put (reference_at i) s ≡ w → placed (ids_of l) None (reference q) s ≡ w
reference_placed l q i s w h made = ap (λ o. put (reference_at (rest_or_first o)) s) (sym h) ∙ made

-- a tree that is no reference is entered
pub no_reference : (ids : Target → Id) (e : Entry) (s : Space) (w : Space × Id) → None ≡ reference_in e → placed ids None e s ≡ w → placed_tree ids e s ≡ w
no_reference ids (reference q) s w h made = absurd (true≢false (ap is_some (sym h)))
no_reference ids e s w h made = made

pub a_reference : (l : Led) (e : Entry) (q : Target) (i : Id) (s : Space) → Some q ≡ reference_in e → Some i ≡ found_led l q → placed_tree (ids_of l) e s ≡ (s, i)
a_reference l (reference p) q i s h f = ap (λ o. (s, rest_or_first o)) (ap (λ o. led-of l o) (sym h) ∙ sym f)
a_reference l e q i s h f = absurd (true≢false (ap is_some h))

-- ---- the whole table

pub targets_placed : (ts : List TargetEntry) (l : Led) (z a b : Space) → z ≡ [] → a ≡ opened_targets ts z → b ≡ filled_targets (ids_of l) 0 ts a → b ≡ placed_targets (ids_of l) ts
targets_placed ts l z a b empty first second = second ∙ ap (filled_targets (ids_of l) 0 ts) (first ∙ ap (opened_targets ts) empty)

pub placed_by : (ts : List TargetEntry) (es : List Entry) (l : Led) (b : Space) (w : Space × Id) → ((q : Target) → found_led l q ≡ led_from 0 ts q) → b ≡ placed_targets (ids_of l) ts → placed_trees (ids_of l) es b ≡ w
    → placed_table (record { targets = ts; trees = es }) ≡ w
placed_by ts es l b w same made rest =
    let t : Table = record { targets = ts; trees = es } in
    let e : ids_in t ≡ ids_of l = λ x q. rest_or_first (sym (same q) x) in ap (λ (i : Target → Id). placed_trees i es (placed_targets i ts)) e ∙ ap (placed_trees (ids_of l) es) (sym made) ∙ rest

pub all_trees : (ids : Target → Id) (e : Entry) (es : List Entry) (s t u : Space) (i : Id) → placed_tree ids e s ≡ (t, i) → u ≡ placed_rest ids es t → placed_trees ids (e ∷ es) s ≡ (u, i)
all_trees ids e es s t u i f g = ap (λ (a : Space × Id). (placed_rest ids es a.0, a.1)) f ∙ ap (λ (z : Space). (z, i)) (sym g)
