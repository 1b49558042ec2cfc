-- The space of the program's map: where a key is found, and what one more pair makes.
use Rattle.std.proofs.Common.{◌≡◌, ℕ, zero, suc, Bor, slice_get, true, false, Bool, ◌||◌, List, [], ◌∷◌, ◌++◌, map, cond, Option, Some, None, is_some, refl, sym, ap, subst, ◌∙◌, true≢false, inl, inr, ◌⊎◌}
use Rattle.std.specs.List.{list_any, IsDistinct, AllByRecursion}
use Rattle.std.specs.Prelude.{option_map}
use Rattle.std.specs.Map.{keys_of, values_of, lookup}
use Rattle.std.specs.Map.Iter.{deref_pair}
use Rattle.entry_types.specs.declared.entry.TypeEntry.{TypeEntry}
use Rattle.entry_types.specs.View.{entry_view}
use Rattle.entry_defs.specs.Space.{EntryAt, Space, entry_at}
use Rattle.entry_space.specs.declared.key.Key.{Key}
use Rattle.entry_space.specs.contracts.key.KeyPartialEq.TheImpl as I
use Rattle.entry_space.specs.Keys.{same_key, has_key, bare, key_view, are_keyed}
use Rattle.entry_space.specs.Entered.{entered}
use Rattle.entry_space.proofs.Keys.{first-true, second-true, found-alike, keyed-is, same-turned}

abbrev pub entries_in : List (Key × TypeEntry) → Space
entries_in ps = map (λ p. entry_view p.1) ps

-- the entry at a place is that of the value there
pub value-at : (ps : List (Key × TypeEntry)) (i : ℕ) → entry_at (entries_in ps) i ≡ option_map entry_view (slice_get (values_of ps) i)
value-at [] i = refl
value-at (p ∷ ps) zero = refl
value-at (p ∷ ps) (suc i) = value-at ps i

pub pair-at : (ps : List (Key × TypeEntry)) (i : ℕ) → entry_at (entries_in ps) i ≡ option_map (λ p. entry_view p.1) (slice_get ps i)
pair-at [] i = refl
pair-at (p ∷ ps) zero = refl
pair-at (p ∷ ps) (suc i) = pair-at ps i

abbrev pub pair_entry : Bor Key × Bor TypeEntry → EntryAt
pair_entry p = entry_view p.1.now

abbrev value_entry : Key × TypeEntry → EntryAt
value_entry p = entry_view p.1

pub got : (ps : List (Key × TypeEntry)) (i : ℕ) (o : Option (Bor Key × Bor TypeEntry)) → option_map deref_pair o ≡ slice_get ps i → option_map pair_entry o ≡ entry_at (entries_in ps) i
got ps i None h = ap (option_map value_entry) h ∙ sym (pair-at ps i)
got ps i (Some p) h = ap (option_map value_entry) h ∙ sym (pair-at ps i)

-- ---- a key that is looked up

module _ (k : Key) (e : EntryAt) (kept : key_view k ≡ bare e) where
  test-alike : (p : Key × TypeEntry) → same_key (key_view p.0) (entry_view p.1) ≡ true → I.eq-value.it k p.0 ≡ same_key e (entry_view p.1)
  test-alike p h = found-alike k p.0 e (entry_view p.1) kept (keyed-is p.0 (entry_view p.1) h)

  none-by : (p : Key × TypeEntry) (ps : List (Key × TypeEntry)) → same_key (key_view p.0) (entry_view p.1) ≡ true
      → (lookup (I.eq-value.it k) ps ≡ None → list_any (same_key e) (entries_in ps) ≡ false)
      → (b : Bool) → I.eq-value.it k p.0 ≡ b → cond b (Some p.1) (lookup (I.eq-value.it k) ps) ≡ None → (same_key e (entry_view p.1) || list_any (same_key e) (entries_in ps)) ≡ false
  none-by p ps own rest true q m = absurd (true≢false (ap is_some m))
  none-by p ps own rest false q m = ap (λ b. b || list_any (same_key e) (entries_in ps)) (sym (test-alike p own) ∙ q) ∙ rest m

  pub none-there : (ps : List (Key × TypeEntry)) → are_keyed ps ≡ true → lookup (I.eq-value.it k) ps ≡ None → list_any (same_key e) (entries_in ps) ≡ false
  none-there [] h n = refl
  none-there (p ∷ ps) h n =
      none-by p ps (first-true (same_key (key_view p.0) (entry_view p.1)) (are_keyed ps) h)
      (none-there ps (second-true (same_key (key_view p.0) (entry_view p.1)) (are_keyed ps) h)) (I.eq-value.it k p.0) refl n

  abbrev pub HasEntry : Option TypeEntry → Type 0
  HasEntry None = Unit {0}
  HasEntry (Some w) = same_key e (entry_view w) ≡ true

  either : (a b : Bool) → b ≡ true → (a || b) ≡ true
  either true b h = refl
  either false b h = h

  some-by : (p : Key × TypeEntry) (ps : List (Key × TypeEntry)) (v : TypeEntry) → same_key (key_view p.0) (entry_view p.1) ≡ true
      → (lookup (I.eq-value.it k) ps ≡ Some v → (list_any (same_key e) (entries_in ps) ≡ true) × (same_key e (entry_view v) ≡ true))
      → (b : Bool) → I.eq-value.it k p.0 ≡ b → cond b (Some p.1) (lookup (I.eq-value.it k) ps) ≡ Some v
      → ((same_key e (entry_view p.1) || list_any (same_key e) (entries_in ps)) ≡ true) × (same_key e (entry_view v) ≡ true)
  some-by p ps v own rest true q m =
      (ap (λ b. b || list_any (same_key e) (entries_in ps)) (sym (test-alike p own) ∙ q), subst HasEntry m (sym (test-alike p own) ∙ q))
  some-by p ps v own rest false q m = let more = rest m in (either (same_key e (entry_view p.1)) (list_any (same_key e) (entries_in ps)) more.0, more.1)

  pub some-there : (ps : List (Key × TypeEntry)) (v : TypeEntry) → are_keyed ps ≡ true → lookup (I.eq-value.it k) ps ≡ Some v
      → (list_any (same_key e) (entries_in ps) ≡ true) × (same_key e (entry_view v) ≡ true)
  some-there [] v h n = absurd (true≢false (sym (ap is_some n)))
  some-there (p ∷ ps) v h n =
      some-by p ps v (first-true (same_key (key_view p.0) (entry_view p.1)) (are_keyed ps) h)
      (some-there ps v (second-true (same_key (key_view p.0) (entry_view p.1)) (are_keyed ps) h)) (I.eq-value.it k p.0) refl n

  -- a key that is found is that of the entry there
  pub there : (ps : List (Key × TypeEntry)) (o : Option TypeEntry) → are_keyed ps ≡ true → lookup (I.eq-value.it k) ps ≡ o → is_some o ≡ true
      → (list_any (same_key e) (entries_in ps) ≡ true) × ((i : ℕ) → slice_get (values_of ps) i ≡ o → has_key e (entry_at (entries_in ps) i) ≡ true)
  there ps None h q s = absurd (true≢false (sym s))
  there ps (Some v) h q s =
      let f = some-there ps v h q in (f.0, λ i g. ap (has_key e) (value-at ps i ∙ ap (option_map entry_view) g) ∙ f.1)

-- ---- one entry more

pub entered-there : (e : EntryAt) (space : Space) → list_any (same_key e) space ≡ true → entered e space ≡ space
entered-there e space h = ap (λ b. cond b space (space ++ e ∷ [])) h

pub entered-new : (e : EntryAt) (space : Space) → list_any (same_key e) space ≡ false → entered e space ≡ space ++ e ∷ []
entered-new e space h = ap (λ b. cond b space (space ++ e ∷ [])) h

pub grows : (e : EntryAt) (space : Space) → (entered e space ≡ space) ⊎ (entered e space ≡ space ++ e ∷ [])
grows e space = by (list_any (same_key e) space) refl
  where
    by : (b : Bool) → list_any (same_key e) space ≡ b → (entered e space ≡ space) ⊎ (entered e space ≡ space ++ e ∷ [])
    by true q = inl (entered-there e space q)
    by false q = inr (entered-new e space q)

-- ---- no two of one key

others-apart : (p : Key × TypeEntry) (ps : List (Key × TypeEntry)) → same_key (key_view p.0) (entry_view p.1) ≡ true → are_keyed ps ≡ true
    → AllByRecursion (λ l. I.eq-value.it p.0 l ≡ false) (keys_of ps) → AllByRecursion (λ f. same_key (entry_view p.1) f ≡ false) (entries_in ps)
others-apart p [] h g d = tt
others-apart p (q ∷ qs) h g d =
    let own = first-true (same_key (key_view q.0) (entry_view q.1)) (are_keyed qs) g in (
      sym (found-alike p.0 q.0 (entry_view p.1) (entry_view q.1) (keyed-is p.0 (entry_view p.1) h) (keyed-is q.0 (entry_view q.1) own)) ∙ d.0,
      others-apart p qs h (second-true (same_key (key_view q.0) (entry_view q.1)) (are_keyed qs) g) d.1,
    )

pub apart-by-keys : (ps : List (Key × TypeEntry)) → are_keyed ps ≡ true → IsDistinct I.eq-value.it (keys_of ps) → IsDistinct same_key (entries_in ps)
unfolding IsDistinct
apart-by-keys [] h d = tt
apart-by-keys (p ∷ ps) h d =
    let own = first-true (same_key (key_view p.0) (entry_view p.1)) (are_keyed ps) h in
    let rest = second-true (same_key (key_view p.0) (entry_view p.1)) (are_keyed ps) h in
    (others-apart p ps own rest d.0, apart-by-keys ps rest d.1)

apart-more : (e x : EntryAt) (xs : Space) → AllByRecursion (λ f. same_key x f ≡ false) xs → same_key e x ≡ false → AllByRecursion (λ f. same_key x f ≡ false) (xs ++ e ∷ [])
apart-more e x [] d h = (same-turned x e ∙ h, tt)
apart-more e x (y ∷ ys) d h = (d.0, apart-more e x ys d.1 h)

apart-by : (e x : EntryAt) (xs : Space) → AllByRecursion (λ f. same_key x f ≡ false) xs → (list_any (same_key e) xs ≡ false → IsDistinct same_key (xs ++ e ∷ []))
    → (b : Bool) → same_key e x ≡ b → (b || list_any (same_key e) xs) ≡ false → AllByRecursion (λ f. same_key x f ≡ false) (xs ++ e ∷ []) × IsDistinct same_key (xs ++ e ∷ [])
apart-by e x xs own rest true q g = absurd (true≢false g)
apart-by e x xs own rest false q g = (apart-more e x xs own q, rest g)

apart-at-end : (e : EntryAt) (space : Space) → IsDistinct same_key space → list_any (same_key e) space ≡ false → IsDistinct same_key (space ++ e ∷ [])
unfolding IsDistinct
apart-at-end e [] d h = (tt, tt)
apart-at-end e (x ∷ xs) d h = apart-by e x xs d.0 (apart-at-end e xs d.1) (same_key e x) refl h

pub stays-apart : (e : EntryAt) (space : Space) → IsDistinct same_key space → IsDistinct same_key (entered e space)
stays-apart e space d = by (list_any (same_key e) space) refl
  where
    by : (b : Bool) → list_any (same_key e) space ≡ b → IsDistinct same_key (entered e space)
    by true q = subst (IsDistinct same_key) (sym (entered-there e space q)) d
    by false q = subst (IsDistinct same_key) (sym (entered-new e space q)) (apart-at-end e space d q)
