-- Sets of names that are put into one another, and the names that are put.
use Rattle.std.proofs.Common.{◌≡◌, ℕ, List, [], ◌∷◌, Bool, true, false, ◌||◌, cond, map, String, Global, string_bytes, string_cmp, nat_cmp, Ordering, Less, Equal, Greater, refl, sym, ap, ◌∙◌, subst}
use Rattle.std.specs.Prelude.{if◌then◌else◌}
use Rattle.std.specs.Ordering.{is_eq, match_ordering}
use Rattle.std.specs.BTreeMap.{is_at}
use Rattle.std.specs.BTreeSet.{insert_key}
use Rattle.std.specs.Set.{remove_key}
use Rattle.std.specs.Cmp.Lexicographic.{slice_cmp}
use Rattle.std.specs.List.{list_any}
use Rattle.std.specs.List.Sorted.{IsStrictlySortedBy}
use Rattle.std.proofs.lemmas.Cmp.{nat_list_cmp_total}
use Rattle.std.proofs.lemmas.Map.Text.{is_eq-slice_cmp}
use Rattle.enum_defs.specs.Words.{is_name}
use Rattle.merge_defs.specs.Objects.{put_before, put_name, put_names}
use Rattle.merge_apart.proofs.PutNames.{order_of, same_by, put_inside, put_outside}

abbrev pub Names : Type 0
Names = List (String Global)

abbrev pub texts : Names → List (List ℕ)
texts ks = map string_bytes ks

-- ---- one key more

-- a key below another is none of those above that
none_above : (n : List ℕ) (k : String Global) (ks : Names) → IsStrictlySortedBy string_cmp (k ∷ ks) → order_of n (string_bytes k) ≡ Less → is_name n (texts ks) ≡ false
unfolding IsStrictlySortedBy
none_above n k [] h e = refl
none_above n k (l ∷ ks) h e =
    let f = nat_list_cmp_total.trans n (string_bytes k) (string_bytes l) e h.0.0 in
    ap (λ b. b || is_name n (texts ks)) (sym (is_eq-slice_cmp n (string_bytes l)) ∙ ap is_eq f) ∙ none_above n l ks h.1 f

pub rest_sorted : (k : String Global) (ks : Names) → IsStrictlySortedBy string_cmp (k ∷ ks) → IsStrictlySortedBy string_cmp ks
unfolding IsStrictlySortedBy
rest_sorted k ks h = h.1

put_by : (o : Ordering) (n m : List ℕ) (ms : List (List ℕ)) (ins : List (List ℕ)) → order_of n m ≡ o → (o ≡ Less → is_name n ms ≡ false) → (o ≡ Greater → ins ≡ put_name n ms)
    → match_ordering o (n ∷ m ∷ ms) (m ∷ ms) (m ∷ ins) ≡ (if is_eq o || is_name n ms then m ∷ ms else if match_ordering o true false false then n ∷ m ∷ ms else m ∷ put_before n ms)
put_by Less n m ms ins e h k = ap (λ b. if b then m ∷ ms else n ∷ m ∷ ms) (sym (h refl))
put_by Equal n m ms ins e h k = refl
put_by Greater n m ms ins e h k = ap (λ l. m ∷ l) (k refl) ∙ go (is_name n ms)
  where
    go : (b : Bool) → ◌≡◌ {A = List (List ℕ)} (m ∷ (if b then ms else put_before n ms)) (if b then m ∷ ms else m ∷ put_before n ms)
    go true = refl
    go false = refl

matched : {X Y : Type 0} (f : X → Y) (o : Ordering) (x y z : X) → f (match_ordering o x y z) ≡ match_ordering o (f x) (f y) (f z)
matched f Less x y z = refl
matched f Equal x y z = refl
matched f Greater x y z = refl

sorted_below : (o : Ordering) (k s : String Global) (ks ls : Names) → IsStrictlySortedBy string_cmp (match_ordering o (s ∷ k ∷ ks) (k ∷ ks) (k ∷ ls)) → o ≡ Less → IsStrictlySortedBy string_cmp (k ∷ ks)
sorted_below Less k s ks ls h e = rest_sorted s (k ∷ ks) h
sorted_below Equal k s ks ls h e = h
sorted_below Greater k s ks ls h e = cc

sorted_above : (o : Ordering) (k s : String Global) (ks ls : Names) → IsStrictlySortedBy string_cmp (match_ordering o (s ∷ k ∷ ks) (k ∷ ks) (k ∷ ls)) → o ≡ Greater → IsStrictlySortedBy string_cmp ls
sorted_above Less k s ks ls h e = cc
sorted_above Equal k s ks ls h e = cc
sorted_above Greater k s ks ls h e = rest_sorted k ls h

pub put_is : (ks : Names) (s : String Global) → IsStrictlySortedBy string_cmp (insert_key string_cmp ks s) → texts (insert_key string_cmp ks s) ≡ put_name (string_bytes s) (texts ks)
put_is [] s h = refl
put_is (k ∷ ks) s h =
    let n = string_bytes s in
    let m = string_bytes k in
    let ms = texts ks in
    let o = order_of n m in
    let more = insert_key string_cmp ks s in
    matched texts o (s ∷ k ∷ ks) (k ∷ ks) (k ∷ more)
    ∙ put_by o n m ms (texts more) refl (λ e. none_above n k ks (sorted_below o k s ks more h e) e) (λ e. put_is ks s (sorted_above o k s ks more h e))
    ∙ ap (λ b. if b || is_name n ms then m ∷ ms else if match_ordering o true false false then n ∷ m ∷ ms else m ∷ put_before n ms) (is_eq-slice_cmp n m)

-- ---- names of a set, put into none

put_first : (k : String Global) (ks : Names) → IsStrictlySortedBy string_cmp (k ∷ ks) → put_name (string_bytes k) (texts ks) ≡ texts (k ∷ ks)
unfolding IsStrictlySortedBy
put_first k [] h = refl
put_first k (l ∷ ks) h =
    ap (λ b. if b then texts (l ∷ ks) else put_before (string_bytes k) (texts (l ∷ ks)))
    (ap (λ b. b || is_name (string_bytes k) (texts ks)) (sym (is_eq-slice_cmp (string_bytes k) (string_bytes l)) ∙ ap is_eq h.0.0) ∙ none_above (string_bytes k) l ks h.1 h.0.0)
    ∙ ap (λ o. if match_ordering o true false false then string_bytes k ∷ texts (l ∷ ks) else string_bytes l ∷ put_before (string_bytes k) (texts ks)) h.0.0

pub set_alone : (ks : Names) → IsStrictlySortedBy string_cmp ks → put_names (texts ks) [] ≡ texts ks
set_alone [] h = refl
set_alone (k ∷ ks) h = ap (put_name (string_bytes k)) (set_alone ks (rest_sorted k ks h)) ∙ put_first k ks h

-- ---- a turn of a loop over the names of a set

-- into the set that stands aside
pub turn_aside : (whole : List (List ℕ)) (old left aside more : Names) (s : String Global) → old ≡ s ∷ left → more ≡ insert_key string_cmp aside s → IsStrictlySortedBy string_cmp more
    → put_names (texts aside) (put_names (texts old) []) ≡ whole → put_names (texts more) (put_names (texts left) []) ≡ whole
turn_aside whole old left aside more s e f h was =
    let n = string_bytes s in
    let rest = put_names (texts left) [] in
    ap (λ ks. put_names ks rest) (ap texts f ∙ put_is aside s (subst (IsStrictlySortedBy string_cmp) f h)) ∙ put_outside n (texts aside) rest ∙ put_inside n (texts aside) rest
    ∙ ap (λ ks. put_names (texts aside) (put_names (texts ks) [])) (sym e) ∙ was

pub end_aside : (whole : List (List ℕ)) (left aside : Names) → left ≡ [] → put_names (texts aside) (put_names (texts left) []) ≡ whole → put_names (texts aside) [] ≡ whole
end_aside whole left aside e was = ap (λ ks. put_names (texts aside) (put_names (texts ks) [])) (sym e) ∙ was

pub begin_aside : (names aside : Names) → IsStrictlySortedBy string_cmp names → put_names (texts aside) (put_names (texts names) []) ≡ put_names (texts aside) (texts names)
begin_aside names aside h = ap (put_names (texts aside)) (set_alone names h)

-- out of those that are left
pub turn_whole : (whole : List (List ℕ)) (old left names more : Names) (s : String Global) → old ≡ s ∷ left → more ≡ insert_key string_cmp names s → IsStrictlySortedBy string_cmp more
    → put_names (texts old) (texts names) ≡ whole → put_names (texts left) (texts more) ≡ whole
turn_whole whole old left names more s e f h was =
    let n = string_bytes s in
    ap (put_names (texts left)) (ap texts f ∙ put_is names s (subst (IsStrictlySortedBy string_cmp) f h)) ∙ sym (put_inside n (texts left) (texts names)) ∙ ap (λ ks. put_names (texts ks) (texts names)) (sym e) ∙ was

pub end_whole : (whole : List (List ℕ)) (left names : Names) → left ≡ [] → put_names (texts left) (texts names) ≡ whole → texts names ≡ whole
end_whole whole left names e was = ap (λ ks. put_names (texts ks) (texts names)) (sym e) ∙ was

-- ---- a name that comes back

removed : (n : List ℕ) (ks : Names) (ns : List (List ℕ)) → list_any (is_at (λ k. slice_cmp nat_cmp n (string_bytes k))) ks ≡ true
    → put_names (texts (remove_key (is_at (λ k. slice_cmp nat_cmp n (string_bytes k))) ks)) (put_name n ns) ≡ put_names (texts ks) ns
removed n [] ns h = cc
removed n (k ∷ ks) ns h = by (slice_cmp nat_cmp n (string_bytes k)) refl h (removed n ks ns)
  where
    rest : Names
    rest = remove_key (is_at (λ k. slice_cmp nat_cmp n (string_bytes k))) ks

    there : Bool
    there = list_any (is_at (λ k. slice_cmp nat_cmp n (string_bytes k))) ks

    by : (o : Ordering) → slice_cmp nat_cmp n (string_bytes k) ≡ o → (is_eq o || there) ≡ true → (there ≡ true → put_names (texts rest) (put_name n ns) ≡ put_names (texts ks) ns)
        → put_names (texts (cond (is_eq o) ks (k ∷ rest))) (put_name n ns) ≡ put_names (texts (k ∷ ks)) ns
    by Less e p q = ap (put_name (string_bytes k)) (q p)
    by Equal e p q = sym (put_inside n (texts ks) ns) ∙ ap (λ m. put_name m (put_names (texts ks) ns)) (same_by n (string_bytes k) e)
    by Greater e p q = ap (put_name (string_bytes k)) (q p)

pub turn_back : (whole : List (List ℕ)) (n : List ℕ) (aside left names more : Names) (s : String Global)
    → left ≡ remove_key (is_at (λ k. slice_cmp nat_cmp n (string_bytes k))) aside → list_any (is_at (λ k. slice_cmp nat_cmp n (string_bytes k))) aside ≡ true → slice_cmp nat_cmp n (string_bytes s) ≡ Equal
    → more ≡ insert_key string_cmp names s → IsStrictlySortedBy string_cmp more
    → put_names (texts aside) (texts names) ≡ whole → put_names (texts left) (texts more) ≡ whole
turn_back whole n aside left names more s e there same f h was =
    ap (put_names (texts left)) (ap texts f ∙ put_is names s (subst (IsStrictlySortedBy string_cmp) f h) ∙ ap (λ m. put_name m (texts names)) (sym (same_by n (string_bytes s) same)))
    ∙ ap (λ ks. put_names (texts ks) (put_name n (texts names))) e ∙ removed n aside (texts names) there ∙ was
