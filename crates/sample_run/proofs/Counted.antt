-- How many values are taken, one verdict after another.
use Rattle.std.proofs.Common.{◌≡◌, ℕ, suc, ◌+◌, ◌<◌, ◌≤◌, List, ◌∷◌, map, drop, length, get_or, Bool, true, false, cond, Some, None, refl, sym, ap, ◌∙◌, drop-cons, Result, IfOk, String, string_bytes, subst, arith}
use Rattle.std.proofs.lemmas.List.{drop_all}
use Rattle.std.specs.declared.alloc.Global.{Global}
use Rattle.serde_json.specs.Data.{Data}
use Rattle.derive_model.specs.declared.verdict.Verdict.{Verdict}
use Rattle.derive_model.specs.VerdictView.{VerdictD, taken, refused, written_of, verdict_view}
use Rattle.sample_run.specs.Sampled.{is_taken, taken_count, counts_page}

pub when_written : (v : VerdictD) (d : Data) → Some d ≡ written_of v → true ≡ is_taken v
when_written (taken e) d h = refl
when_written (refused l) d h = cc

pub when_unwritten : (v : VerdictD) → None ≡ written_of v → false ≡ is_taken v
when_unwritten (taken e) h = cc
when_unwritten (refused l) h = refl

-- the count of one verdict and those behind it
counted : (v : VerdictD) (vs : List VerdictD) (b : Bool) → b ≡ is_taken v → taken_count (v ∷ vs) ≡ cond b (suc (taken_count vs)) (taken_count vs)
counted (taken d) vs b e = (λ t. cond (sym e t) (suc (taken_count vs)) (taken_count vs))
counted (refused l) vs b e = (λ t. cond (sym e t) (suc (taken_count vs)) (taken_count vs))

at_drop : (xs : List Verdict) (i : ℕ) (v : Verdict) (b : Bool) → i < length xs → v ≡ get_or xs i v → b ≡ is_taken (verdict_view v)
    → taken_count (map verdict_view (drop i xs)) ≡ cond b (suc (taken_count (map verdict_view (drop (i + 1) xs)))) (taken_count (map verdict_view (drop (i + 1) xs)))
at_drop xs i v b h e k =
    ap (λ ys. taken_count (map verdict_view ys)) (drop-cons xs i v h ∙ ap (λ y. y ∷ drop (suc i) xs) (sym e))
    ∙ counted (verdict_view v) (map verdict_view (drop (suc i) xs)) b k
    ∙ ap (λ j. cond b (suc (taken_count (map verdict_view (drop j xs)))) (taken_count (map verdict_view (drop j xs)))) (let s : suc i ≡ i + 1 = omega arith in s)

pub one_taken : (xs : List Verdict) (i c w : ℕ) (v : Verdict) (b : Bool) → i < length xs → v ≡ get_or xs i v → b ≡ is_taken (verdict_view v) → b ≡ true
    → c + taken_count (map verdict_view (drop i xs)) ≡ w → (c + 1) + taken_count (map verdict_view (drop (i + 1) xs)) ≡ w
one_taken xs i c w v b h e k t was =
    let n = at_drop xs i v true h e (sym t ∙ k) in
    omega (arith, n, was)

pub one_refused : (xs : List Verdict) (i c w : ℕ) (v : Verdict) (b : Bool) → i < length xs → v ≡ get_or xs i v → b ≡ is_taken (verdict_view v) → b ≡ false
    → c + taken_count (map verdict_view (drop i xs)) ≡ w → c + taken_count (map verdict_view (drop (i + 1) xs)) ≡ w
one_refused xs i c w v b h e k t was = ap (λ n. c + n) (sym (at_drop xs i v false h e (sym t ∙ k))) ∙ was

pub all_counted : (xs : List Verdict) (i c w : ℕ) → length xs ≤ i → c + taken_count (map verdict_view (drop i xs)) ≡ w → c ≡ w
all_counted xs i c w h was =
    let none : taken_count (map verdict_view (drop i xs)) ≡ 0 = ap (λ ys. taken_count (map verdict_view ys)) (drop_all i xs h) in
    omega (arith, none, was)

-- ---- the page

pub page_by_counts : {E : Type 0} (r : Result (String Global) E) (n a b c a' b' c' : ℕ) → a ≡ a' → b ≡ b' → c ≡ c' → IfOk r (λ s. string_bytes s ≡ counts_page n a b c)
    → IfOk r (λ s. string_bytes s ≡ counts_page n a' b' c')
page_by_counts r n a b c a' b' c' e f g h = subst (λ t. t) (λ i. IfOk r (λ s. string_bytes s ≡ counts_page n (e i) (f i) (g i))) h
