-- Names that differ, told by those that were seen before.
use Rattle.std.proofs.Common.{◌≡◌, ℕ, suc, ◌+◌, ◌<◌, drop, length, get_or, drop-cons, arith, List, [], ◌∷◌, map, Bool, true, false, ◌&&◌, ◌||◌, not, Bor, Ordering, Less, Equal, Greater, nat_cmp, bytes_eq, refl, sym, ap, ◌∙◌, true≢false}
use Rattle.std.specs.List.{list_all, list_any}
use Rattle.std.specs.Cmp.Lexicographic.{slice_cmp}
use Rattle.std.specs.Ordering.{match_ordering, is_eq}
use Rattle.std.specs.BTreeMap.{is_at}
use Rattle.std.specs.BTreeSet.{insert_key}
use Rattle.std.proofs.lemmas.Map.Text.{is_eq-slice_cmp}
use Rattle.std.proofs.lemmas.Slice.Eq.{bytes_eq-Decides}
use Rattle.enum_defs.specs.Words.{Name, is_name, all_differ}

same_bools : (a b : Bool) → (a ≡ true → b ≡ true) → (b ≡ true → a ≡ true) → a ≡ b
same_bools true b f g = sym (f refl)
same_bools false true f g = g refl
same_bools false false f g = refl

swapped : (n m : Name) → bytes_eq n m ≡ bytes_eq m n
swapped n m = same_bools (bytes_eq n m) (bytes_eq m n) (λ h. (bytes_eq-Decides m n).1 (sym ((bytes_eq-Decides n m).0 h))) (λ h. (bytes_eq-Decides n m).1 (sym ((bytes_eq-Decides m n).0 h)))

-- no name is among those before it, nor passes the test
abbrev pub all_fresh : (Name → Bool) → List Name → Bool
all_fresh p [] = true
all_fresh p (n ∷ ns) = not (p n) && all_fresh (λ m. bytes_eq m n || p m) ns

none-of : (p : Name → Bool) (n : Name) (ns : List Name) → list_all (λ m. not (bytes_eq m n || p m)) ns ≡ (not (is_name n ns) && list_all (λ m. not (p m)) ns)
none-of p n [] = refl
none-of p n (m ∷ ms) =
    (λ i. not (swapped m n i || p m) && none-of p n ms i) ∙ regrouped (bytes_eq n m) (p m) (is_name n ms) (list_all (λ m. not (p m)) ms)
  where
    regrouped : (a b c l : Bool) → (not (a || b) && (not c && l)) ≡ (not (a || c) && (not b && l))
    regrouped true b c l = refl
    regrouped false true true l = refl
    regrouped false true false l = refl
    regrouped false false c l = refl

fresh-is : (p : Name → Bool) (ns : List Name) → all_fresh p ns ≡ (list_all (λ m. not (p m)) ns && all_differ ns)
fresh-is p [] = refl
fresh-is p (n ∷ ns) =
    (λ i. not (p n) && fresh-is (λ m. bytes_eq m n || p m) ns i)
    ∙ (λ i. not (p n) && (none-of p n ns i && all_differ ns))
    ∙ regrouped (not (p n)) (not (is_name n ns)) (list_all (λ m. not (p m)) ns) (all_differ ns)
  where
    regrouped : (a b l e : Bool) → (a && ((b && l) && e)) ≡ ((a && l) && (b && e))
    regrouped true true l e = refl
    regrouped true false true e = refl
    regrouped true false false e = refl
    regrouped false b l e = refl

none-seen : (ns : List Name) → list_all (λ m. true) ns ≡ true
none-seen [] = refl
none-seen (n ∷ ns) = none-seen ns

pub fresh-start : (ns : List Name) → all_differ ns ≡ all_fresh (λ m. false) ns
fresh-start ns = sym (fresh-is (λ m. false) ns ∙ ap (λ b. b && all_differ ns) (none-seen ns))

-- ---- the set of those that were seen

abbrev Key : Type 0
Key = Bor (List ℕ)

abbrev pub texts : List Key → List Name
texts ks = map (λ k. k.now) ks

seen-in : (n : Name) (ks : List Key) → list_any (is_at (λ k. slice_cmp nat_cmp n k.now)) ks ≡ is_name n (texts ks)
seen-in n [] = refl
seen-in n (k ∷ ks) = λ i. is_eq-slice_cmp n k.now i || seen-in n ks i

inserted : (n : Name) (ks : List Key) (m : Key) → is_name n (texts (insert_key (λ a b. slice_cmp nat_cmp a.now b.now) ks m)) ≡ (bytes_eq n m.now || is_name n (texts ks))
inserted n [] m = refl
inserted n (k ∷ ks) m = by (slice_cmp nat_cmp m.now k.now) refl (inserted n ks m)
  where
    turned : (a b c : Bool) → (a || (b || c)) ≡ (b || (a || c))
    turned true true c = refl
    turned true false c = refl
    turned false b c = refl

    twice : (a b : Bool) → a ≡ b → (c : Bool) → (b || c) ≡ (a || (b || c))
    twice true true e c = refl
    twice true false e c = absurd (true≢false e)
    twice false true e c = refl
    twice false false e c = refl

    by : (o : Ordering) → slice_cmp nat_cmp m.now k.now ≡ o → is_name n (texts (insert_key (λ a b. slice_cmp nat_cmp a.now b.now) ks m)) ≡ (bytes_eq n m.now || is_name n (texts ks))
        → is_name n (texts (match_ordering o (m ∷ k ∷ ks) (k ∷ ks) (k ∷ insert_key (λ a b. slice_cmp nat_cmp a.now b.now) ks m))) ≡ (bytes_eq n m.now || (bytes_eq n k.now || is_name n (texts ks)))
    by Less e h = refl
    by Equal e h = twice (bytes_eq n m.now) (bytes_eq n k.now) (ap (bytes_eq n) ((bytes_eq-Decides m.now k.now).0 (sym (is_eq-slice_cmp m.now k.now) ∙ ap is_eq e))) (is_name n (texts ks))
    by Greater e h = ap (λ b. bytes_eq n k.now || b) h ∙ turned (bytes_eq n k.now) (bytes_eq n m.now) (is_name n (texts ks))

-- the next of those that are left
left-at : (names : List Key) (i : ℕ) (d : Key) → i < length names → drop i names ≡ get_or names i d ∷ drop (i + 1) names
left-at names i d h = drop-cons names i d h ∙ ap (λ n. get_or names i d ∷ drop n names) (let k : suc i ≡ i + 1 = omega arith in k)

now-seen : (old new : List Key) (n : Key) → new ≡ insert_key (λ a b. slice_cmp nat_cmp a.now b.now) old n → ◌≡◌ {A = Name → Bool} (λ m. bytes_eq m n.now || is_name m (texts old)) (λ m. is_name m (texts new))
now-seen old new n e = λ j m. (sym (inserted m old n) ∙ ap (λ ks. is_name m (texts ks)) (sym e)) j

pub fresh-more : (old new names : List Key) (i : ℕ) (d : Key) (whole : Bool)
    → i < length names → new ≡ insert_key (λ a b. slice_cmp nat_cmp a.now b.now) old (get_or names i d) → list_any (is_at (λ k. slice_cmp nat_cmp (get_or names i d).now k.now)) old ≡ false
    → whole ≡ all_fresh (λ m. is_name m (texts old)) (texts (drop i names)) → whole ≡ all_fresh (λ m. is_name m (texts new)) (texts (drop (i + 1) names))
fresh-more old new names i d whole l e f h =
    h ∙ ap (λ xs. all_fresh (λ m. is_name m (texts old)) (texts xs)) (left-at names i d l)
    ∙ ap (λ b. not b && all_fresh (λ m. bytes_eq m (get_or names i d).now || is_name m (texts old)) (texts (drop (i + 1) names))) (sym (seen-in (get_or names i d).now old) ∙ f)
    ∙ ap (λ p. all_fresh p (texts (drop (i + 1) names))) (now-seen old new (get_or names i d) e)

pub fresh-stop : (old names : List Key) (i : ℕ) (d : Key) (whole : Bool)
    → i < length names → list_any (is_at (λ k. slice_cmp nat_cmp (get_or names i d).now k.now)) old ≡ true → whole ≡ all_fresh (λ m. is_name m (texts old)) (texts (drop i names)) → false ≡ whole
fresh-stop old names i d whole l f h =
    sym (h ∙ ap (λ xs. all_fresh (λ m. is_name m (texts old)) (texts xs)) (left-at names i d l)
    ∙ ap (λ b. not b && all_fresh (λ m. bytes_eq m (get_or names i d).now || is_name m (texts old)) (texts (drop (i + 1) names))) (sym (seen-in (get_or names i d).now old) ∙ f))
