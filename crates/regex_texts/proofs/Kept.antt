-- What is kept of the patterns that were compiled.
use Rattle.std.proofs.Common.{◌≡◌, ◌∙◌, sym, ap, subst, ℕ, List, Bool, true, false, cond, Option, Some, None, is_some, bytes_eq, string_bytes, OnErr, OnOk, Result, Ok, Err, refl, true≢false}
use Rattle.std.specs.Prelude.{IsSome}
use Rattle.std.proofs.lemmas.Map.Text.{btree_map_updates_text}
use Rattle.std.proofs.lemmas.Option.{same_Some}
use Rattle.std.proofs.lemmas.Slice.Eq.{bytes_eq-Decides}
use Rattle.std.specs.BTreeMap.{BTreeMap, IsUnchanged, UpdatesBy, get_by_text, is_at}
use Rattle.std.specs.Cmp.Lexicographic.{slice_cmp}
use Rattle.std.specs.Map.{lookup}
use Rattle.std.specs.Ordering.{nat_cmp}
use Rattle.std.specs.String.{string_cmp}
use Rattle.std.specs.declared.string.String.{String}
use Rattle.plain_patterns.specs.Ends.{Searched, is_plain, rewritten}
use Rattle.regex_texts.specs.declared.search.Search.{Search}
use Rattle.regex_texts.specs.Search.{is_found_by, matches}
use Rattle.regex_texts.specs.Searchers.{Searches, search_seen}

-- what is kept for each pattern searches for it
abbrev pub AllSearch : {Y : Type 0} → BTreeMap (String Y) Search → Type 0
AllSearch kept = (pattern : List ℕ) (m : Search) → get_by_text kept pattern ≡ Some m → Searches pattern (search_seen m)

by_test : (bs p : List ℕ) (o : Option Search) (w r : Search) → Searches bs (search_seen w) → (o ≡ Some r → Searches p (search_seen r))
    → (t : Bool) → bytes_eq bs p ≡ t → cond t (Some w) o ≡ Some r → Searches p (search_seen r)
by_test bs p o w r new old true e h =
    let same : bs ≡ p = (bytes_eq-Decides bs p).0 e in
    let there : Searches bs (search_seen r) = subst (λ m. Searches bs (search_seen m)) (same_Some w r h) new in
    subst (λ q. Searches q (search_seen r)) same there
by_test bs p o w r new old false e h = old h

-- one pattern more
one_more : {Y : Type 0} (bs : List ℕ) (m n : BTreeMap (String Y) Search) (w : Search) → UpdatesBy string_cmp (λ k. slice_cmp nat_cmp bs (string_bytes k)) m n (Some w)
    → AllSearch m → Searches bs (search_seen w) → AllSearch n
one_more bs m n w u old new p r e =
    by_test bs p (get_by_text m p) w r new (old p r) (bytes_eq bs p) refl (sym (btree_map_updates_text bs m n (Some w) u p) ∙ e)

-- what was searched with is kept on
pub searched : {Y : Type 0} (bs : List ℕ) (m n : BTreeMap (String Y) Search) (v w : Search)
    → (IsSome (get_by_text m bs) → UpdatesBy string_cmp (λ k. slice_cmp nat_cmp bs (string_bytes k)) m n (Some w)) → Some v ≡ get_by_text m bs → search_seen w ≡ search_seen v
    → AllSearch m → AllSearch n
searched bs m n v w u found same old = one_more bs m n w (u (subst IsSome found refl)) old (subst (Searches bs) (sym same) (old bs v (sym found)))

-- the same, whatever came of entering it
pub entered : {Y A B : Type 0} (result : Result A B) (bs : List ℕ) (m n : BTreeMap (String Y) Search) (w : Search)
    → OnOk result (UpdatesBy string_cmp (λ k. slice_cmp nat_cmp bs (string_bytes k)) m n (Some w)) → OnErr result (IsUnchanged m n) → AllSearch m → Searches bs (search_seen w) → AllSearch n
entered (Ok x) bs m n w updates stays old new = one_more bs m n w updates old new
entered (Err x) bs m n w updates stays old new = λ p r h. old p r (ap (lookup (is_at (λ k. slice_cmp nat_cmp p (string_bytes k)))) (sym stays) ∙ h)

-- what was entered is kept
pub kept_here : {Y : Type 0} (bs : List ℕ) (m n : BTreeMap (String Y) Search) (w : Search) → UpdatesBy string_cmp (λ k. slice_cmp nat_cmp bs (string_bytes k)) m n (Some w)
    → is_some (get_by_text n bs) ≡ true
kept_here bs m n w u =
    ap is_some (btree_map_updates_text bs m n (Some w) u bs ∙ ap (λ t. cond t (Some w) (get_by_text m bs)) ((bytes_eq-Decides bs bs).1 refl))

-- a pattern for which something is kept is plain
pub kept_plain : (pattern : List ℕ) (o : Option Search) → ((m : Search) → o ≡ Some m → Searches pattern (search_seen m)) → is_some o ≡ true → is_plain pattern ≡ true
kept_plain pattern None f e = absurd (true≢false (sym e))
kept_plain pattern (Some m) f e = (f m refl).plain

by_plain : (o : Option Searched) (text : List ℕ) → is_some o ≡ false → is_found_by o text ≡ false
by_plain None text e = refl
by_plain (Some source) text e = absurd (true≢false e)

-- no text has a pattern that isn't plain
pub not_plain : (pattern text : List ℕ) → is_plain pattern ≡ false → matches pattern text ≡ false
unfolding matches
not_plain pattern text e = by_plain (rewritten pattern) text e
