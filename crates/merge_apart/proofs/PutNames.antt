-- Names put into names: in which order doesn't matter.
use Rattle.std.proofs.Common.{◌≡◌, ℕ, true≢false, List, [], ◌∷◌, Bool, true, false, ◌||◌, nat_cmp, Ordering, Less, Equal, Greater, refl, sym, ap, ◌∙◌, subst}
use Rattle.std.specs.Prelude.{if◌then◌else◌, bytes_eq}
use Rattle.std.specs.Ordering.{is_eq, match_ordering, ordering_reverse}
use Rattle.std.specs.Cmp.Lexicographic.{slice_cmp}
use Rattle.std.proofs.lemmas.Cmp.{nat_list_cmp_total}
use Rattle.std.proofs.lemmas.Map.Text.{is_eq-slice_cmp}
use Rattle.std.proofs.lemmas.Slice.Eq.{bytes_eq-Decides}
use Rattle.enum_defs.specs.Words.{is_name}
use Rattle.merge_defs.specs.Objects.{is_below, put_before, put_name, put_names}

-- ---- orders of two names

abbrev pub order_of : List ℕ → List ℕ → Ordering
order_of n m = slice_cmp nat_cmp n m

pub turned : (n m : List ℕ) (o : Ordering) → order_of n m ≡ o → order_of m n ≡ ordering_reverse o
turned n m o e = nat_list_cmp_total.antisymm m n ∙ ap ordering_reverse e

pub below_by : (n m : List ℕ) (o : Ordering) → order_of n m ≡ o → is_below n m ≡ match_ordering o true false false
below_by n m o e = ap (λ x. match_ordering x true false false) e

pub equal_by : (n m : List ℕ) (o : Ordering) → order_of n m ≡ o → bytes_eq n m ≡ is_eq o
equal_by n m o e = sym (is_eq-slice_cmp n m) ∙ ap is_eq e

pub same_by : (n m : List ℕ) → order_of n m ≡ Equal → n ≡ m
same_by n m e = (bytes_eq-Decides n m).0 (equal_by n m Equal e)

less_by : (o : Ordering) → match_ordering o true false false ≡ true → o ≡ Less
less_by Less h = refl
less_by Equal h = cc
less_by Greater h = cc

pub below_less : (n m : List ℕ) → is_below n m ≡ true → order_of n m ≡ Less
below_less n m h = less_by (order_of n m) h

pub below_both : (n m k : List ℕ) → order_of n m ≡ Less → is_below m k ≡ true → is_below n k ≡ true
below_both n m k e h = below_by n k Less (nat_list_cmp_total.trans n m k e (below_less m k h))

-- ---- which names are there

or_turned : (a b c : Bool) → (a || (b || c)) ≡ (b || (a || c))
or_turned true true c = refl
or_turned true false c = refl
or_turned false true c = refl
or_turned false false c = refl

or_joined : (a b c : Bool) → (a || (b || c)) ≡ ((a || b) || c)
or_joined true b c = refl
or_joined false b c = refl

name_before : (m n : List ℕ) (ms : List (List ℕ)) → is_name m (put_before n ms) ≡ (bytes_eq m n || is_name m ms)
name_before m n [] = refl
name_before m n (k ∷ ms) = by (is_below n k) (name_before m n ms)
  where
    by : (b : Bool) → is_name m (put_before n ms) ≡ (bytes_eq m n || is_name m ms) → is_name m (if b then n ∷ k ∷ ms else k ∷ put_before n ms) ≡ (bytes_eq m n || (bytes_eq m k || is_name m ms))
    by true h = refl
    by false h = ap (λ b. bytes_eq m k || b) h ∙ or_turned (bytes_eq m k) (bytes_eq m n) (is_name m ms)

equal_itself : (n : List ℕ) → bytes_eq n n ≡ true
equal_itself n = (bytes_eq-Decides n n).1 refl

-- a name that is there already
absorbed : (m n : List ℕ) (ms : List (List ℕ)) → is_name n ms ≡ true → is_name m ms ≡ (bytes_eq m n || is_name m ms)
absorbed m n ms h = by (bytes_eq m n) refl
  where
    by : (b : Bool) → bytes_eq m n ≡ b → is_name m ms ≡ (b || is_name m ms)
    by true e = ap (λ k. is_name k ms) ((bytes_eq-Decides m n).0 e) ∙ h
    by false e = refl

pub name_put : (m n : List ℕ) (ms : List (List ℕ)) → is_name m (put_name n ms) ≡ (bytes_eq m n || is_name m ms)
name_put m n ms = by (is_name n ms) refl
  where
    by : (b : Bool) → is_name n ms ≡ b → is_name m (if b then ms else put_before n ms) ≡ (bytes_eq m n || is_name m ms)
    by true e = absorbed m n ms e
    by false e = name_before m n ms

pub name_puts : (m : List ℕ) (ns ms : List (List ℕ)) → is_name m (put_names ns ms) ≡ (is_name m ns || is_name m ms)
name_puts m [] ms = refl
name_puts m (n ∷ ns) ms = name_put m n (put_names ns ms) ∙ ap (λ b. bytes_eq m n || b) (name_puts m ns ms) ∙ or_joined (bytes_eq m n) (is_name m ns) (is_name m ms)

pub put_stays : (n : List ℕ) (ms : List (List ℕ)) → is_name n ms ≡ true → put_name n ms ≡ ms
put_stays n ms h = ap (λ b. if b then ms else put_before n ms) h

pub put_goes : (n : List ℕ) (ms : List (List ℕ)) → is_name n ms ≡ false → put_name n ms ≡ put_before n ms
put_goes n ms h = ap (λ b. if b then ms else put_before n ms) h

-- ---- two names

before_commutes : (n m : List ℕ) → order_of n m ≡ Less → (ms : List (List ℕ)) → put_before n (put_before m ms) ≡ put_before m (put_before n ms)
before_commutes n m e [] = ap (λ b. if b then n ∷ m ∷ [] else m ∷ n ∷ []) (below_by n m Less e) ∙ sym (ap (λ b. if b then m ∷ n ∷ [] else n ∷ m ∷ []) (below_by m n Greater (turned n m Less e)))
before_commutes n m e (k ∷ ms) = by (is_below n k) (is_below m k) refl refl (before_commutes n m e ms)
  where
    first : is_below n m ≡ true
    first = below_by n m Less e

    later : is_below m n ≡ false
    later = below_by m n Greater (turned n m Less e)

    by : (a b : Bool) → is_below n k ≡ a → is_below m k ≡ b → put_before n (put_before m ms) ≡ put_before m (put_before n ms)
        → put_before n (if b then m ∷ k ∷ ms else k ∷ put_before m ms) ≡ put_before m (if a then n ∷ k ∷ ms else k ∷ put_before n ms)
    by true true p q h = rw (first, later, q) refl
    by true false p q h = rw (p, later, q) refl
    by false true p q h = absurd (true≢false (sym (below_both n m k e q) ∙ p))
    by false false p q h = rw (p, q) (ap (λ l. k ∷ l) h)

both_go : (n m : List ℕ) (ms : List (List ℕ)) → bytes_eq n m ≡ false → is_name n ms ≡ false → is_name m ms ≡ false → put_name n (put_name m ms) ≡ put_before n (put_before m ms)
both_go n m ms e p q = ap (put_name n) (put_goes m ms q) ∙ put_goes n (put_before m ms) (name_before n m ms ∙ ap (λ b. b || is_name n ms) e ∙ p)

-- where the first is there already
first_there : (n m : List ℕ) (ms : List (List ℕ)) → is_name n ms ≡ true → put_name n (put_name m ms) ≡ put_name m (put_name n ms)
first_there n m ms p = put_stays n (put_name m ms) (name_put n m ms ∙ ap (λ b. bytes_eq n m || b) p ∙ or_true (bytes_eq n m)) ∙ ap (put_name m) (sym (put_stays n ms p))
  where
    or_true : (b : Bool) → (b || true) ≡ true
    or_true true = refl
    or_true false = refl

less_commutes : (n m : List ℕ) (ms : List (List ℕ)) → order_of n m ≡ Less → put_name n (put_name m ms) ≡ put_name m (put_name n ms)
less_commutes n m ms e = by (is_name n ms) (is_name m ms) refl refl
  where
    by : (a b : Bool) → is_name n ms ≡ a → is_name m ms ≡ b → put_name n (put_name m ms) ≡ put_name m (put_name n ms)
    by true b p q = first_there n m ms p
    by false true p q = sym (first_there m n ms q)
    by false false p q =
        both_go n m ms (equal_by n m Less e) p q ∙ before_commutes n m e ms ∙ sym (both_go m n ms (equal_by m n Greater (turned n m Less e)) q p)

pub put_commutes : (n m : List ℕ) (ms : List (List ℕ)) → put_name n (put_name m ms) ≡ put_name m (put_name n ms)
put_commutes n m ms = by (order_of n m) refl
  where
    by : (o : Ordering) → order_of n m ≡ o → put_name n (put_name m ms) ≡ put_name m (put_name n ms)
    by Less e = less_commutes n m ms e
    by Equal e = subst (λ k. put_name n (put_name k ms) ≡ put_name k (put_name n ms)) (same_by n m e) refl
    by Greater e = sym (less_commutes m n ms (turned n m Greater e))

-- ---- lists of names

-- one name behind others
pub put_inside : (n : List ℕ) (ns ms : List (List ℕ)) → put_name n (put_names ns ms) ≡ put_names ns (put_name n ms)
put_inside n [] ms = refl
put_inside n (k ∷ ns) ms = put_commutes n k (put_names ns ms) ∙ ap (put_name k) (put_inside n ns ms)

before_outside : (n : List ℕ) (ns ms : List (List ℕ)) → put_names (put_before n ns) ms ≡ put_name n (put_names ns ms)
before_outside n [] ms = refl
before_outside n (k ∷ ns) ms = by (is_below n k) (before_outside n ns ms)
  where
    by : (b : Bool) → put_names (put_before n ns) ms ≡ put_name n (put_names ns ms) → put_names (if b then n ∷ k ∷ ns else k ∷ put_before n ns) ms ≡ put_name n (put_name k (put_names ns ms))
    by true h = refl
    by false h = ap (put_name k) h ∙ put_commutes k n (put_names ns ms)

-- one name more among those that are put
pub put_outside : (n : List ℕ) (ns ms : List (List ℕ)) → put_names (put_name n ns) ms ≡ put_name n (put_names ns ms)
put_outside n ns ms = by (is_name n ns) refl
  where
    by : (b : Bool) → is_name n ns ≡ b → put_names (if b then ns else put_before n ns) ms ≡ put_name n (put_names ns ms)
    by true e = sym (put_stays n (put_names ns ms) (name_puts n ns ms ∙ ap (λ b. b || is_name n ms) e))
    by false e = before_outside n ns ms
