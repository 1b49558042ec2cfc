-- What was entered is found, and nothing else.
use Rattle.std.proofs.Common.{Bor, length, ◌≡◌, ℕ, zero, suc, List, [], ◌∷◌, ◌++◌, Bool, true, false, cond, ◌||◌, Option, Some, None, is_some, bytes_eq, string_bytes, slice_get, reverse, refl, sym, ap, ◌∙◌, true≢false}
use Rattle.std.specs.List.{list_any}
use Rattle.std.specs.BTreeMap.{BTreeMap, IsUnchanged, UpdatesBy, get_by_text, is_at}
use Rattle.std.specs.Map.{lookup}
use Rattle.std.specs.Cmp.Lexicographic.{slice_cmp}
use Rattle.std.specs.Ordering.{nat_cmp}
use Rattle.std.specs.Slice.{IsItemAt}
use Rattle.std.specs.Prelude.{if◌then◌else◌}
use Rattle.std.specs.String.{string_cmp}
use Rattle.std.specs.declared.string.String.{String}
use Rattle.std.proofs.lemmas.List.{map-append, reverse-append}
use Rattle.std.proofs.lemmas.List.Folds.{list_any-append}
use Rattle.std.proofs.lemmas.Map.Text.{btree_map_updates_text}
use Rattle.std.proofs.lemmas.Option.{same_Some, slice_get_read}
use Rattle.std.proofs.lemmas.Slice.Eq.{bytes_eq-Decides}
use Rattle.evolve_defs.specs.Spots.{Spots}
use Rattle.evolve_rows.specs.TurnView.{pair_view, pairs_view}
use Rattle.evolve_rows.specs.declared.turn.Pair.{Pair}
use Rattle.evolve_walks.specs.Keyed.{AreKeyed}
use Rattle.evolve_walks.specs.Same.{same_spots, spots_key}
use Rattle.evolve_walks.proofs.Sound.{spots_are}

-- ---- one of the list

or_first : (a b : Bool) → a ≡ true → (a || b) ≡ true
or_first true b h = refl
or_first false b h = absurd (true≢false (sym h))

or_second : (a b : Bool) → b ≡ true → (a || b) ≡ true
or_second true b h = refl
or_second false b h = h

found_in : (p : Spots) (ps : List Pair) (i : ℕ) (x : Pair) → Some x ≡ slice_get ps i → same_spots p (pair_view x) ≡ true → list_any (same_spots p) (pairs_view ps) ≡ true
found_in p [] i x h e = cc
found_in p (y ∷ ps) zero x h e =
    let same : x ≡ y = same_Some x y h in
    or_first (same_spots p (pair_view y)) (list_any (same_spots p) (pairs_view ps)) (ap (λ z. same_spots p (pair_view z)) (sym same) ∙ e)
found_in p (y ∷ ps) (suc i) x h e = or_second (same_spots p (pair_view y)) (list_any (same_spots p) (pairs_view ps)) (found_in p ps i x h e)

pub found_at : (p : Spots) (ps : List Pair) (i : ℕ) (x : Bor Pair) → IsItemAt ps i (Some x) → same_spots p (pair_view x.now) ≡ true → list_any (same_spots p) (pairs_view ps) ≡ true
found_at p ps i x h e = found_in p ps i x.now (sym (slice_get_read ps (length ps) i x.now refl h.3.0 h.1)) e

-- ---- turned round

turned : (a b : Bool) → (b || (a || false)) ≡ (a || b)
turned true true = refl
turned true false = refl
turned false true = refl
turned false false = refl

pub any_turned : (test : Spots → Bool) (ps : List Spots) → list_any test (reverse ps) ≡ list_any test ps
any_turned test [] = refl
any_turned test (p ∷ ps) =
    ap (list_any test) (reverse-append (p ∷ []) ps) ∙ list_any-append test (reverse ps) (p ∷ []) ∙ turned (test p) (list_any test (reverse ps)) ∙ ap (λ b. test p || b) (any_turned test ps)

-- one more comes first
pub one_more : (ps : List Pair) (p : Pair) → reverse (pairs_view (ps ++ p ∷ [])) ≡ pair_view p ∷ reverse (pairs_view ps)
one_more ps p = ap reverse (map-append pair_view ps (p ∷ [])) ∙ reverse-append (pairs_view ps) (pair_view p ∷ [])

-- ---- keys

no_key : (o : Option ℕ) (b : Bool) → (b ≡ true → is_some o ≡ true) → None ≡ o → false ≡ b
no_key o true h e = absurd (true≢false (sym (h refl) ∙ ap is_some (sym e)))
no_key o false h e = refl

pub not_entered : {Y : Type 0} (kept : BTreeMap (String Y) ℕ) (ps : List Spots) (p : Spots) → AreKeyed kept ps → None ≡ get_by_text kept (spots_key p) → false ≡ list_any (same_spots p) ps
not_entered kept ps p h e = no_key (get_by_text kept (spots_key p)) (list_any (same_spots p) ps) (h p) e

some_of : (b : Bool) (i : ℕ) (o : Option ℕ) → is_some o ≡ true → is_some (cond b (Some i) o) ≡ true
some_of true i o h = refl
some_of false i o h = h

some_here : (b : Bool) (i : ℕ) (o : Option ℕ) → b ≡ true → is_some (cond b (Some i) o) ≡ true
some_here true i o h = refl
some_here false i o h = absurd (true≢false (sym h))

either : (a b c : Bool) → (a ≡ true → c ≡ true) → (b ≡ true → c ≡ true) → (a || (b || false)) ≡ true → c ≡ true
either true b c f g h = f refl
either false true c f g h = g refl
either false false c f g h = absurd (true≢false (sym h))

-- where memory ran out
pub unchanged_keyed : {Y : Type 0} (old new : BTreeMap (String Y) ℕ) (ps : List Spots) → IsUnchanged old new → AreKeyed old ps → AreKeyed new ps
unchanged_keyed old new ps same was q h = ap (λ es. is_some (lookup (is_at (λ k. slice_cmp nat_cmp (spots_key q) (string_bytes k))) es)) same ∙ was q h

pub more_keyed : {Y : Type 0} (key : List ℕ) (old new : BTreeMap (String Y) ℕ) (i : ℕ) (ps : List Spots) → UpdatesBy string_cmp (λ k. slice_cmp nat_cmp key (string_bytes k)) old new (Some i)
    → AreKeyed old ps → AreKeyed new ps
more_keyed key old new i ps u was q h =
    ap is_some (btree_map_updates_text key old new (Some i) u (spots_key q)) ∙ some_of (bytes_eq key (spots_key q)) i (get_by_text old (spots_key q)) (was q h)

pub still_keyed : {Y : Type 0} (key : List ℕ) (old new : BTreeMap (String Y) ℕ) (i : ℕ) (ps : List Pair) (p : Pair) → key ≡ spots_key (pair_view p)
    → UpdatesBy string_cmp (λ k. slice_cmp nat_cmp key (string_bytes k)) old new (Some i) → AreKeyed old (pairs_view ps) → AreKeyed new (pairs_view (ps ++ p ∷ []))
still_keyed key old new i ps p e u was q h =
    let found : get_by_text new (spots_key q) ≡ cond (bytes_eq key (spots_key q)) (Some i) (get_by_text old (spots_key q)) = btree_map_updates_text key old new (Some i) u (spots_key q) in
    let there : (list_any (same_spots q) (pairs_view ps) || (same_spots q (pair_view p) || false)) ≡ true =
    sym (ap (list_any (same_spots q)) (map-append pair_view ps (p ∷ [])) ∙ list_any-append (same_spots q) (pairs_view ps) (pair_view p ∷ [])) ∙ h in
    ap is_some found
    ∙ either (list_any (same_spots q) (pairs_view ps)) (same_spots q (pair_view p)) (is_some (cond (bytes_eq key (spots_key q)) (Some i) (get_by_text old (spots_key q))))
    (λ k. some_of (bytes_eq key (spots_key q)) i (get_by_text old (spots_key q)) (was q k))
    (λ k. some_here (bytes_eq key (spots_key q)) i (get_by_text old (spots_key q)) ((bytes_eq-Decides key (spots_key q)).1 (e ∙ ap spots_key (sym (spots_are q (pair_view p) k)))))
    there

-- where the pair was put behind the others, or memory ran out
pub pushed_keyed : {Y : Type 0} (ok : Bool) (key : List ℕ) (old new : BTreeMap (String Y) ℕ) (i : ℕ) (ps qs : List Pair) (p : Pair) → key ≡ spots_key (pair_view p) → qs ≡ (if ok then ps ++ p ∷ [] else ps)
    → UpdatesBy string_cmp (λ k. slice_cmp nat_cmp key (string_bytes k)) old new (Some i) → AreKeyed old (pairs_view ps) → AreKeyed new (pairs_view qs)
pushed_keyed true key old new i ps qs p e h u was = λ q k. still_keyed key old new i ps p e u was q (ap (λ zs. list_any (same_spots q) (pairs_view zs)) (sym h) ∙ k)
pushed_keyed false key old new i ps qs p e h u was = λ q k. more_keyed key old new i (pairs_view ps) u was q (ap (λ zs. list_any (same_spots q) (pairs_view zs)) (sym h) ∙ k)
