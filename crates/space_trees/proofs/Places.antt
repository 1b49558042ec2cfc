-- Where entries and the names of items stand in a space that grows, and in one whose item is filled.
use Rattle.std.proofs.Common.{◌≡◌, ◌⊎◌, inl, inr, ℕ, zero, suc, ◌<◌, List, [], ◌∷◌, ◌++◌, map, length, Bool, true, false, ◌||◌, Option, Some, None, option_map, refl, sym, ap, subst, ◌∙◌, true≢false, bytes_eq, arith}
use Rattle.std.specs.Prelude.{is_some, if◌then◌else◌}
use Rattle.std.specs.List.{list_any}
use Rattle.entry_defs.specs.Space.{Id, ShapeAt, EntryAt, boolean_at, integer_at, text_at, native_at, any_at, null_at, option_at, vec_at, set_at, map_at, tuple_entry_at, array_at, reference_at, item_at, Space, entry_at}
use Rattle.space_defs.specs.Items.{item_then, items_from}
use Rattle.space_defs.specs.Ordered.{parts_of, AreBelow, PartsAreLower}
use Rattle.entry_space.specs.Keys.{same_key, has_key}
use Rattle.entry_space.specs.Entered.{shaped, filled}
use Rattle.entry_space.proofs.Keys.{same-is, same-itself}
use Rattle.space_trees.specs.Names.{name_then, item_names}
use Rattle.space_trees.specs.Placed.{place_of}

-- ---- names

then-more : (e : EntryAt) (a b : List (List ℕ)) → name_then e (a ++ b) ≡ name_then e a ++ b
then-more (item_at n s) a b = refl
then-more e a b = refl

pub names-append : (s t : Space) → item_names (s ++ t) ≡ item_names s ++ item_names t
names-append [] t = refl
names-append (e ∷ es) t = ap (name_then e) (names-append es t) ∙ then-more e (item_names es) (item_names t)

then-shaped : (h : ShapeAt) (e : EntryAt) (ns : List (List ℕ)) → name_then (shaped h e) ns ≡ name_then e ns
then-shaped h (item_at n s) ns = refl
then-shaped h e ns = refl

pub names-filled : (i : Id) (h : ShapeAt) (s : Space) → item_names (filled i h s) ≡ item_names s
names-filled i h [] = refl
names-filled zero h (e ∷ es) = then-shaped h e (item_names es)
names-filled (suc i) h (e ∷ es) = ap (name_then e) (names-filled i h es)

then-names : (i : Id) (e : EntryAt) (s : Space) → map (λ x. x.name) (items_from (suc i) s) ≡ item_names s → map (λ x. x.name) (item_then i e (items_from (suc i) s)) ≡ name_then e (item_names s)
then-names i (item_at n h) s q = ap (λ ns. n ∷ ns) q
then-names i e s q = q

pub items-names : (i : Id) (s : Space) → map (λ x. x.name) (items_from i s) ≡ item_names s
items-names i [] = refl
items-names i (e ∷ es) = then-names i e es (items-names (suc i) es)

pub any-name : (n : List ℕ) (h : ShapeAt) (s : Space) → list_any (same_key (item_at n h)) s ≡ list_any (bytes_eq n) (item_names s)
any-name n h [] = refl
any-name n h (item_at m t ∷ es) = ap (λ b. bytes_eq n m || b) (any-name n h es)
any-name n h (e ∷ es) = any-name n h es

-- ---- what stands at an id

pub none-some : {A : Type 0} (e : EntryAt) → None ≡ Some e → A
none-some e h = absurd (true≢false (ap is_some (sym h)))

pub within : (s : Space) (i : Id) (e : EntryAt) → entry_at s i ≡ Some e → i < length s
within [] i e h = none-some e h
within (x ∷ xs) zero e h = let k : zero < suc (length xs) = omega arith in k
within (x ∷ xs) (suc i) e h = let k = within xs i e h in let m : suc i < suc (length xs) = omega arith in m

pub at-more : (s more : Space) (i : Id) (e : EntryAt) → entry_at s i ≡ Some e → entry_at (s ++ more) i ≡ Some e
at-more [] more i e h = none-some e h
at-more (x ∷ xs) more zero e h = h
at-more (x ∷ xs) more (suc i) e h = at-more xs more i e h

pub at-end : (s : Space) (e : EntryAt) (more : Space) → entry_at (s ++ e ∷ more) (length s) ≡ Some e
at-end [] e more = refl
at-end (x ∷ xs) e more = at-end xs e more

pub length-end : (s : Space) (e : EntryAt) → length (s ++ e ∷ []) ≡ suc (length s)
length-end [] e = refl
length-end (x ∷ xs) e = ap suc (length-end xs e)

-- ---- filled

pub filled-end : (s : Space) (n : List ℕ) (h k : ShapeAt) (more : Space) → filled (length s) h (s ++ item_at n k ∷ more) ≡ s ++ item_at n h ∷ more
filled-end [] n h k more = refl
filled-end (x ∷ xs) n h k more = ap (λ z. x ∷ z) (filled-end xs n h k more)

pub at-filled : (s : Space) (i : Id) (n : List ℕ) (h k : ShapeAt) → entry_at s i ≡ Some (item_at n k) → entry_at (filled i h s) i ≡ Some (item_at n h)
at-filled [] i n h k q = none-some (item_at n k) q
at-filled (x ∷ xs) zero n h k q = ap (option_map (shaped h)) q
at-filled (x ∷ xs) (suc i) n h k q = at-filled xs i n h k q

pub at-later : (s : Space) (i : Id) (h : ShapeAt) (k : Id) → i < k → entry_at (filled i h s) k ≡ entry_at s k
at-later [] i h k q = refl
at-later (x ∷ xs) zero h zero q = absurd (omega arith)
at-later (x ∷ xs) zero h (suc k) q = refl
at-later (x ∷ xs) (suc i) h zero q = absurd (omega arith)
at-later (x ∷ xs) (suc i) h (suc k) q = at-later xs i h k (let m : i < k = omega arith in m)

-- ---- parts lie lower

abbrev parts_in : Option EntryAt → List Id
parts_in None = []
parts_in (Some e) = parts_of e

same-parts : (e f : EntryAt) → Some e ≡ Some f → parts_of e ≡ parts_of f
same-parts e f h = ap parts_in h

shaped-parts : (h : ShapeAt) (e : EntryAt) → parts_of (shaped h e) ≡ parts_of e
shaped-parts h (item_at n s) = refl
shaped-parts h e = refl

abbrev Before : Space → Id → EntryAt → Type 0
Before s i e = (x : EntryAt) × (entry_at s i ≡ Some x) × (parts_of x ≡ parts_of e)

before-filled : (j : Id) (h : ShapeAt) (s : Space) (i : Id) (e : EntryAt) → entry_at (filled j h s) i ≡ Some e → Before s i e
before-filled j h [] i e q = none-some e q
before-filled zero h (x ∷ xs) zero e q = (x, refl, sym (shaped-parts h x) ∙ same-parts (shaped h x) e q)
before-filled zero h (x ∷ xs) (suc i) e q = (e, q, refl)
before-filled (suc j) h (x ∷ xs) zero e q = (e, q, refl)
before-filled (suc j) h (x ∷ xs) (suc i) e q = before-filled j h xs i e q

pub lower-filled : (j : Id) (h : ShapeAt) (s : Space) → PartsAreLower s → PartsAreLower (filled j h s)
lower-filled j h s low i e q = let b = before-filled j h s i e q in subst (AreBelow i) b.2 (low i b.0 b.1)

abbrev AtEnd : Space → EntryAt → Id → EntryAt → Type 0
AtEnd s a i e = (entry_at s i ≡ Some e) ⊎ ((i ≡ length s) × (parts_of a ≡ parts_of e))

at-end-or : (s : Space) (a : EntryAt) (i : Id) (e : EntryAt) → entry_at (s ++ a ∷ []) i ≡ Some e → AtEnd s a i e
at-end-or [] a zero e q = inr (refl, same-parts a e q)
at-end-or [] a (suc i) e q = none-some e q
at-end-or (x ∷ xs) a zero e q = inl q
at-end-or (x ∷ xs) a (suc i) e q = later (at-end-or xs a i e q)
  where
    later : AtEnd xs a i e → AtEnd (x ∷ xs) a (suc i) e
    later (inl r) = inl r
    later (inr r) = inr (ap suc r.0, r.1)

pub lower-end : (s : Space) (a : EntryAt) → AreBelow (length s) (parts_of a) → PartsAreLower s → PartsAreLower (s ++ a ∷ [])
lower-end s a below low i e q = by (at-end-or s a i e q)
  where
    by : AtEnd s a i e → AreBelow i (parts_of e)
    by (inl r) = low i e r
    by (inr r) = subst (λ n. AreBelow n (parts_of e)) (sym r.0) (subst (AreBelow (length s)) r.1 below)

-- ---- entries by their keys

abbrev pub is_item : EntryAt → Bool
is_item (item_at n s) = true
is_item _ = false

pub no-name : (e : EntryAt) → is_item e ≡ false → name_then e [] ≡ []
no-name (item_at n s) q = absurd (true≢false q)
no-name e q = refl

-- what is no item is what its key says
exact : (a e : EntryAt) → is_item a ≡ false → same_key a e ≡ true → e ≡ a
exact (item_at n s) e q h = absurd (true≢false q)
exact boolean_at boolean_at q h = refl
exact (integer_at g) (integer_at k) q h = sym (same-is (integer_at g) (integer_at k) h)
exact text_at text_at q h = refl
exact (native_at f) (native_at g) q h = sym (same-is (native_at f) (native_at g) h)
exact any_at any_at q h = refl
exact null_at null_at q h = refl
exact (option_at i) (option_at j) q h = sym (same-is (option_at i) (option_at j) h)
exact (vec_at i) (vec_at j) q h = sym (same-is (vec_at i) (vec_at j) h)
exact (set_at i) (set_at j) q h = sym (same-is (set_at i) (set_at j) h)
exact (map_at k i) (map_at l j) q h = sym (same-is (map_at k i) (map_at l j) h)
exact (tuple_entry_at is) (tuple_entry_at js) q h = sym (same-is (tuple_entry_at is) (tuple_entry_at js) h)
exact (array_at i m) (array_at j n) q h = sym (same-is (array_at i m) (array_at j n) h)
exact (reference_at i) (reference_at j) q h = sym (same-is (reference_at i) (reference_at j) h)
exact a e q h = absurd (true≢false (sym h))

pub exact-at : (a : EntryAt) (o : Option EntryAt) → is_item a ≡ false → has_key a o ≡ true → o ≡ Some a
exact-at a None q h = absurd (true≢false (sym h))
exact-at a (Some e) q h = ap Some (exact a e q h)

-- the place of a key that is there
pub place-found : (a : EntryAt) (s : Space) → list_any (same_key a) s ≡ true → has_key a (entry_at s (place_of a s)) ≡ true
place-found a [] h = absurd (true≢false (sym h))
place-found a (x ∷ xs) h = by (same_key a x) refl h (place-found a xs)
  where
    by : (b : Bool) → same_key a x ≡ b → (b || list_any (same_key a) xs) ≡ true → (list_any (same_key a) xs ≡ true → has_key a (entry_at xs (place_of a xs)) ≡ true)
        → has_key a (entry_at (x ∷ xs) (if b then zero else suc (place_of a xs))) ≡ true
    by true q r more = q
    by false q r more = more r

-- and of one that is put at the end
pub place-new : (a : EntryAt) (s : Space) → list_any (same_key a) s ≡ false → place_of a (s ++ a ∷ []) ≡ length s
place-new a [] h = ap (λ b. if b then zero else suc zero) (same-itself a)
place-new a (x ∷ xs) h = by (same_key a x) h (place-new a xs)
  where
    by : (b : Bool) → (b || list_any (same_key a) xs) ≡ false → (list_any (same_key a) xs ≡ false → place_of a (xs ++ a ∷ []) ≡ length xs)
        → (if b then zero else suc (place_of a (xs ++ a ∷ []))) ≡ suc (length xs)
    by true r more = absurd (true≢false r)
    by false r more = ap suc (more r)
