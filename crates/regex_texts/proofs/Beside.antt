-- What is searched for beside a pattern's own, one after the other.
use Rattle.std.proofs.Common.{◌≡◌, ◌∙◌, sym, ap, ℕ, suc, ◌+◌, ◌<◌, List, [], ◌∷◌, ◌++◌, Bool, true, false, ◌&&◌, length, map, take, take-suc, drop, drop-cons, get_or, set, refl, arith}
use Rattle.std.specs.List.{list_all}
use Rattle.std.proofs.Math.Seq.{map-set_same}
use Rattle.std.proofs.Math.ListN.{get_or-map}
use Rattle.std.proofs.lemmas.List.{length-map, take-append-drop}
use Rattle.std.proofs.lemmas.List.Folds.{list_all-append}
use Rattle.regex_hir.specs.Re.{Re}
use Rattle.plain_patterns.specs.declared.searches.Look.{Look}
use Rattle.plain_patterns.specs.Ends.{look_seen}
use Rattle.regex_texts.specs.declared.search.Beside.{Beside}
use Rattle.regex_texts.specs.Search.{has_look}
use Rattle.regex_texts.specs.Searchers.{beside_seen, finds_beside}

by_cases : (a b c d : Bool) → b ≡ c → ((a && (b && true)) && d) ≡ (a && (c && d))
by_cases true true c d e = ap (λ x. x && d) e
by_cases true false c d e = ap (λ x. x && d) e
by_cases false b c d e = refl

-- one more that was compiled
pub next_compiled : (text : List ℕ) (done new : List (Re × Bool)) (one : Re × Bool) (looks : List Look) (i : ℕ) (d : Look) (w : Bool) → i < length looks → new ≡ done ++ one ∷ []
    → finds_beside text one ≡ has_look text (look_seen (get_or looks i d)) → (list_all (finds_beside text) done && list_all (has_look text) (map look_seen (drop i looks))) ≡ w
    → (list_all (finds_beside text) new && list_all (has_look text) (map look_seen (drop (i + 1) looks))) ≡ w
next_compiled text done new one looks i d w lt e f was =
    ap (λ xs. list_all (finds_beside text) xs && left (i + 1)) e
    ∙ ap (λ b. b && left (i + 1)) (list_all-append (finds_beside text) done (one ∷ []))
    ∙ by_cases (list_all (finds_beside text) done) (finds_beside text one) (has_look text (look_seen (get_or looks i d))) (left (i + 1)) f
    ∙ ap (λ k. list_all (finds_beside text) done && (has_look text (look_seen (get_or looks i d)) && left k)) (let k : i + 1 ≡ suc i = omega arith in k)
    ∙ ap (λ xs. list_all (finds_beside text) done && list_all (has_look text) (map look_seen xs)) (sym (drop-cons looks i d lt))
    ∙ was
  where
    left : ℕ → Bool
    left k = list_all (has_look text) (map look_seen (drop k looks))

-- the one at a place, as it was before
seen_at : (xs was : List Beside) (i : ℕ) (d : Beside) → map beside_seen xs ≡ map beside_seen was → get_or (map beside_seen was) i (beside_seen d) ≡ beside_seen (get_or xs i d)
seen_at xs was i d e = ap (λ zs. get_or zs i (beside_seen d)) (sym e) ∙ get_or-map beside_seen xs i d

-- what a search leaves is seen as before
pub same_set : (xs was : List Beside) (i : ℕ) (d new : Beside) → map beside_seen xs ≡ map beside_seen was → beside_seen new ≡ beside_seen (get_or xs i d)
    → map beside_seen (set xs i new) ≡ map beside_seen was
same_set xs was i d new e s = map-set_same beside_seen xs i new d s ∙ e

within : (was : List Beside) (i : ℕ) → i < length was → i < length (map beside_seen was)
within was i lt = omega (arith, lt, length-map was beside_seen)

both_true : (a b : Bool) → a ≡ true → b ≡ true → (a && (b && true)) ≡ true
both_true a b p q = ap (λ x. x && (b && true)) p ∙ ap (λ x. x && true) q

-- one more that is as it is asked
pub next_match : (text : List ℕ) (xs was : List Beside) (i : ℕ) (d : Beside) → i < length was → map beside_seen xs ≡ map beside_seen was → finds_beside text (beside_seen (get_or xs i d)) ≡ true
    → list_all (finds_beside text) (take i (map beside_seen was)) ≡ true → list_all (finds_beside text) (take (i + 1) (map beside_seen was)) ≡ true
next_match text xs was i d lt e m before =
    ap (λ k. list_all (finds_beside text) (take k (map beside_seen was))) (let k : i + 1 ≡ suc i = omega arith in k)
    ∙ ap (list_all (finds_beside text)) (take-suc (map beside_seen was) i (beside_seen d) (within was i lt))
    ∙ list_all-append (finds_beside text) (take i (map beside_seen was)) (get_or (map beside_seen was) i (beside_seen d) ∷ [])
    ∙ both_true _ _ before (ap (finds_beside text) (seen_at xs was i d e) ∙ m)

first_false : (a b c : Bool) → a ≡ true → b ≡ false → (a && (b && c)) ≡ false
first_false a b c p q = ap (λ x. x && (b && c)) p ∙ ap (λ x. x && c) q

-- one that isn't
pub no_match : (text : List ℕ) (xs was : List Beside) (i : ℕ) (d : Beside) → i < length was → map beside_seen xs ≡ map beside_seen was → finds_beside text (beside_seen (get_or xs i d)) ≡ false
    → list_all (finds_beside text) (take i (map beside_seen was)) ≡ true → false ≡ list_all (finds_beside text) (map beside_seen was)
no_match text xs was i d lt e m before =
    let ys = map beside_seen was in
    sym (ap (list_all (finds_beside text)) (sym (take-append-drop i ys))
    ∙ list_all-append (finds_beside text) (take i ys) (drop i ys)
    ∙ ap (λ zs. list_all (finds_beside text) (take i ys) && list_all (finds_beside text) zs) (drop-cons ys i (beside_seen d) (within was i lt))
    ∙ first_false _ _ _ before (ap (finds_beside text) (seen_at xs was i d e) ∙ m))
