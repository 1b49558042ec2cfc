-- What a search finds among names in order, and what an edit at that place does.
use Rattle.std.proofs.Common.{◌⊎◌, ◌≡◌, ℕ, zero, suc, ◌+◌, ◌-◌, ◌*◌, ◌/◌, ◌<◌, ◌≤◌, ◌^◌, List, [], ◌∷◌, length, get_or, Bool, true, false, if◌then◌else◌, cond, Option, Some, None, is_some, bytes_eq, refl, sym, ap, subst, ◌∙◌, true≢false, inl, inr, arith}
use Rattle.std.specs.List.{insert}
use Rattle.std.specs.Ordering.{nat_cmp, is_lt, is_eq, ordering_reverse}
use Rattle.std.specs.Cmp.Lexicographic.{slice_cmp}
use Rattle.std.specs.declared.cmp.Ordering.{Ordering}
use Rattle.std.specs.declared.cmp.Ordering.TheVariants.{Less, Equal, Greater}
use Rattle.std.proofs.lemmas.Cmp.{nat_list_cmp_total}
use Rattle.std.proofs.lemmas.Map.Text.{is_eq-slice_cmp}
use Rattle.std.proofs.lemmas.Slice.Eq.{bytes_eq-Decides}
use Rattle.std.proofs.lemmas.List.Edits.{length-insert, get_or-insert_below, get_or-insert_at, get_or-insert_above}
use Rattle.std.proofs.lemmas.Bool.{cases_lt}
use Rattle.std.proofs.lemmas.List.{get_or_default}
use Rattle.std.proofs.Math.Nat.{eq-or-lt_of_le, pow-suc, mul-le-mul_left}
use Rattle.name_tables.specs.Names.{Names, comes_before, place_of, put_in_order, entered, all_entered, name_at, IsRising, IsAt, IsGapFor, EnteredAreScanned}

abbrev order : List ℕ → List ℕ → Ordering
order m n = slice_cmp nat_cmp m n

itself : (n : List ℕ) → bytes_eq n n ≡ true
itself n = (bytes_eq-Decides n n).1 refl

-- a name that comes before another is another
differs : (m n : List ℕ) → comes_before m n ≡ true → bytes_eq m n ≡ false
differs m n h = sym (is_eq-slice_cmp m n) ∙ by (order m n) h
  where
    by : (o : Ordering) → is_lt o ≡ true → is_eq o ≡ false
    by Less h = refl
    by Equal h = absurd (true≢false (sym h))
    by Greater h = absurd (true≢false (sym h))

turned : (m n : List ℕ) → comes_before m n ≡ true → comes_before n m ≡ false
turned m n h = ap is_lt (nat_list_cmp_total.antisymm n m) ∙ by (order m n) h
  where
    by : (o : Ordering) → is_lt o ≡ true → is_lt (ordering_reverse o) ≡ false
    by Less h = refl
    by Equal h = absurd (true≢false (sym h))
    by Greater h = absurd (true≢false (sym h))

pub differs_after : (m n : List ℕ) → comes_before m n ≡ true → bytes_eq n m ≡ false
differs_after m n h = sym (is_eq-slice_cmp n m) ∙ ap is_eq (nat_list_cmp_total.antisymm n m) ∙ by (order m n) h
  where
    by : (o : Ordering) → is_lt o ≡ true → is_eq (ordering_reverse o) ≡ false
    by Less h = refl
    by Equal h = absurd (true≢false (sym h))
    by Greater h = absurd (true≢false (sym h))

before_next : (l m n : List ℕ) → comes_before l m ≡ true → comes_before m n ≡ true → comes_before l n ≡ true
before_next l m n h g = ap is_lt (nat_list_cmp_total.trans l m n (less l m h) (less m n g))
  where
    by : (o : Ordering) → is_lt o ≡ true → o ≡ Less
    by Less h = refl
    by Equal h = absurd (true≢false (sym h))
    by Greater h = absurd (true≢false (sym h))

    less : (a b : List ℕ) → comes_before a b ≡ true → order a b ≡ Less
    less a b h = by (order a b) h

-- ---- a scan

-- no name before index i is this one
abbrev pub NoneBefore : Names → List ℕ → ℕ → Type 0
NoneBefore es n i = (j : ℕ) → j < i → bytes_eq n (name_at es j) ≡ false

none_in_rest : (e : List ℕ × ℕ) (es : Names) (n : List ℕ) (i : ℕ) → NoneBefore (e ∷ es) n (suc i) → NoneBefore es n i
none_in_rest e es n i none j lt = none (suc j) (omega arith)

pub not_found : (es : Names) (n : List ℕ) → NoneBefore es n (length es) → place_of n es ≡ None
not_found [] n none = refl
not_found (e ∷ es) n none = ap (λ b. if b then Some e.1 else place_of n es) (none 0 (omega arith)) ∙ not_found es n (none_in_rest e es n _ none)

pub found : (es : Names) (n : List ℕ) (i : ℕ) → IsAt es n i → NoneBefore es n i → place_of n es ≡ Some (get_or es i ([], 0)).1
found [] n i at none = absurd (omega (arith, at.in_range))
found (e ∷ es) n zero at none = ap (λ b. if b then Some e.1 else place_of n es) ((bytes_eq-Decides n e.0).1 (sym at.has_name))
found (e ∷ es) n (suc i) at none =
    ap (λ b. if b then Some e.1 else place_of n es) (none 0 (omega arith)) ∙ found es n i (record { in_range = omega (arith, at.in_range); has_name = at.has_name }) (none_in_rest e es n i none)

-- ---- what a search says

pub found_at : (es : Names) → IsRising es → (n : List ℕ) (i : ℕ) → IsAt es n i → place_of n es ≡ Some (get_or es i ([], 0)).1
found_at es rising n i at = found es n i at (λ j lt. differs_after (name_at es j) n (subst (λ m. comes_before (name_at es j) m ≡ true) at.has_name (rising j i lt at.in_range)))

pub not_found_at : (es : Names) (n : List ℕ) (i : ℕ) → IsGapFor es n i → place_of n es ≡ None
not_found_at es n i gap = not_found es n (λ j lt. by j lt)
  where
    by : (j : ℕ) → j < length es → bytes_eq n (name_at es j) ≡ false
    by j lt = elim (cases_lt j i) [
      | inl below ↦ differs_after (name_at es j) n (gap.before j below)
      | inr above ↦ differs n (name_at es j) (gap.after j above lt)
    ]

-- ---- entering in the gap

put_is_inserted : (es : Names) (n : List ℕ) (p i : ℕ) → IsGapFor es n i → put_in_order n p es ≡ insert es i (n, p)
put_is_inserted [] n p zero gap = refl
put_is_inserted [] n p (suc i) gap = absurd (omega (arith, gap.in_range))
put_is_inserted (e ∷ es) n p zero gap = ap (λ b. if b then (n, p) ∷ e ∷ es else e ∷ put_in_order n p es) (gap.after 0 (omega arith) (omega arith))
put_is_inserted (e ∷ es) n p (suc i) gap =
    ap (λ b. if b then (n, p) ∷ e ∷ es else e ∷ put_in_order n p es) (turned e.0 n (gap.before 0 (omega arith)))
    ∙ ap (λ ds. e ∷ ds) (put_is_inserted es n p i (record {
      in_range = omega (arith, gap.in_range);
      before = λ j lt. gap.before (suc j) (omega arith);
      after = λ j le lt. gap.after (suc j) (omega arith) (omega arith);
    }))

pub entered_is_inserted : (es : Names) (n : List ℕ) (p i : ℕ) → IsGapFor es n i → entered n p es ≡ insert es i (n, p)
entered_is_inserted es n p i gap =
    ap (λ o. if is_some o then es else put_in_order n p es) (not_found_at es n i gap) ∙ put_is_inserted es n p i gap

pub entered_is_kept : (es : Names) → IsRising es → (n : List ℕ) (p i : ℕ) → IsAt es n i → entered n p es ≡ es
entered_is_kept es rising n p i at = ap (λ o. if is_some o then es else put_in_order n p es) (found_at es rising n i at)

both_before : (a b c d : List ℕ) → a ≡ c → b ≡ d → comes_before c d ≡ true → comes_before a b ≡ true
both_before a b c d e f h = (λ m. comes_before (e m) (f m)) ∙ h

module _ (es : Names) (n : List ℕ) (p i : ℕ) (gap : IsGapFor es n i) where
  long : length (insert es i (n, p)) ≡ length es + 1
  long = length-insert es i (n, p) gap.in_range

  below : (q : ℕ) → q < i → name_at (insert es i (n, p)) q ≡ name_at es q
  below q h = ap (λ (e : List ℕ × ℕ). e.0) (get_or-insert_below es i (n, p) ([], 0) q h gap.in_range)

  here : (q : ℕ) → i ≡ q → name_at (insert es i (n, p)) q ≡ n
  here q h = ap (name_at (insert es i (n, p))) (sym h) ∙ ap (λ (e : List ℕ × ℕ). e.0) (get_or-insert_at es i (n, p) ([], 0) gap.in_range)

  above : (q : ℕ) → i < q → name_at (insert es i (n, p)) q ≡ name_at es (q - 1)
  above q h =
      let next : q - 1 + 1 ≡ q = omega arith in
      let le : i ≤ q - 1 = omega arith in
      subst (λ r. name_at (insert es i (n, p)) r ≡ name_at es (q - 1)) next (ap (λ (e : List ℕ × ℕ). e.0) (get_or-insert_above es i (n, p) ([], 0) (q - 1) le gap.in_range))

  module _ (rising : IsRising es) (j k : ℕ) (lt : j < k) (in_range : k < length (insert es i (n, p))) where
    from_gap : (i ≡ j) ⊎ (i < j) → comes_before (name_at (insert es i (n, p)) j) (name_at (insert es i (n, p)) k) ≡ true
    from_gap (inl e) =
        let g : i < k = omega arith in
        let le : i ≤ k - 1 = omega arith in
        let short : k - 1 < length es = omega (arith, long) in both_before _ _ _ _ (here j e) (above k g) (gap.after (k - 1) le short)
    from_gap (inr h) =
        let g : i < k = omega arith in
        let l : j - 1 < k - 1 = omega arith in
        let short : k - 1 < length es = omega (arith, long) in both_before _ _ _ _ (above j h) (above k g) (rising (j - 1) (k - 1) l short)

    to_gap : j < i → (i ≡ k) ⊎ (i < k) → comes_before (name_at (insert es i (n, p)) j) (name_at (insert es i (n, p)) k) ≡ true
    to_gap h (inl e) = both_before _ _ _ _ (below j h) (here k e) (gap.before j h)
    to_gap h (inr g) =
        let l : j < k - 1 = omega arith in
        let short : k - 1 < length es = omega (arith, long) in both_before _ _ _ _ (below j h) (above k g) (rising j (k - 1) l short)

    from_before : (k < i) ⊎ (i ≤ k) → j < i → comes_before (name_at (insert es i (n, p)) j) (name_at (insert es i (n, p)) k) ≡ true
    from_before (inl g) h = let short : k < length es = omega (arith, gap.in_range) in both_before _ _ _ _ (below j h) (below k g) (rising j k lt short)
    from_before (inr g) h = to_gap h (eq-or-lt_of_le g)

    rises : (j < i) ⊎ (i ≤ j) → comes_before (name_at (insert es i (n, p)) j) (name_at (insert es i (n, p)) k) ≡ true
    rises (inl h) = from_before (cases_lt k i) h
    rises (inr g) = from_gap (eq-or-lt_of_le g)

-- each new name is an old one before the gap, the name at it, or an old one moved up by one
pub rising_inserted : (es : Names) → IsRising es → (n : List ℕ) (p i : ℕ) → IsGapFor es n i → IsRising (insert es i (n, p))
rising_inserted es rising n p i gap j k lt in_range = rises es n p i gap rising j k lt in_range (cases_lt j i)

-- ---- what was entered one after another

abbrev first_of : Option ℕ → Option ℕ → Option ℕ
first_of None b = b
first_of (Some p) b = Some p

or_none : (o : Option ℕ) → o ≡ first_of o None
or_none None = refl
or_none (Some p) = refl

none_then : (b : Bool) (p : ℕ) (o : Option ℕ) → (b ≡ true → o ≡ None) → cond b (Some p) o ≡ first_of o (cond b (Some p) None)
none_then true p o h = ap (λ q. first_of q (Some p)) (sym (h refl))
none_then false p o h = or_none o

-- where the name is another's, nothing changes
as_was : (b : Bool) (p q : ℕ) (o : Option ℕ) → (b ≡ true → o ≡ Some q) → o ≡ first_of o (cond b (Some p) None)
as_was true p q o h = h refl ∙ ap (λ r. first_of r (Some p)) (sym (h refl))
as_was false p q o h = or_none o

is_rest_none : (b : Bool) (p : ℕ) (o : Option ℕ) → cond b (Some p) o ≡ None → o ≡ None
is_rest_none true p o h = absurd (true≢false (ap is_some h))
is_rest_none false p o h = h

past : (b : Bool) (p : ℕ) (o w : Option ℕ) → cond b (Some p) (first_of o w) ≡ first_of (cond b (Some p) o) w
past true p o w = refl
past false p o w = refl

same_name : (n m : List ℕ) → bytes_eq n m ≡ true → n ≡ m
same_name n m h = (bytes_eq-Decides n m).0 h

put_next : (n m : List ℕ) (p : ℕ) (e : List ℕ × ℕ) (es : Names) → place_of m (e ∷ es) ≡ None
    → place_of n (put_in_order m p es) ≡ first_of (place_of n es) (cond (bytes_eq n m) (Some p) None)
    → (b : Bool) → place_of n (cond b ((m, p) ∷ e ∷ es) (e ∷ put_in_order m p es)) ≡ first_of (place_of n (e ∷ es)) (cond (bytes_eq n m) (Some p) None)
put_next n m p e es none rest true = none_then (bytes_eq n m) p (place_of n (e ∷ es)) (λ h. ap (λ k. place_of k (e ∷ es)) (same_name n m h) ∙ none)
put_next n m p e es none rest false = ap (λ o. cond (bytes_eq n e.0) (Some e.1) o) rest ∙ past (bytes_eq n e.0) e.1 (place_of n es) (cond (bytes_eq n m) (Some p) None)

put_is_scanned : (n m : List ℕ) (p : ℕ) (es : Names) → place_of m es ≡ None → place_of n (put_in_order m p es) ≡ first_of (place_of n es) (cond (bytes_eq n m) (Some p) None)
put_is_scanned n m p [] none = refl
put_is_scanned n m p (e ∷ es) none =
    put_next n m p e es none (put_is_scanned n m p es (is_rest_none (bytes_eq m e.0) e.1 (place_of m es) none)) (comes_before m e.0)

entered_is_scanned : (n m : List ℕ) (p : ℕ) (es : Names) → place_of n (entered m p es) ≡ first_of (place_of n es) (cond (bytes_eq n m) (Some p) None)
entered_is_scanned n m p es = by (place_of m es) refl
  where
    by : (o : Option ℕ) → place_of m es ≡ o → place_of n (cond (is_some o) es (put_in_order m p es)) ≡ first_of (place_of n es) (cond (bytes_eq n m) (Some p) None)
    by None h = put_is_scanned n m p es h
    by (Some q) h = as_was (bytes_eq n m) p q (place_of n es) (λ g. ap (λ k. place_of k es) (same_name n m g) ∙ h)

in_turn : (o : Option ℕ) (b : Bool) (p : ℕ) (w : Option ℕ) → first_of (first_of o (cond b (Some p) None)) w ≡ first_of o (cond b (Some p) w)
in_turn None true p w = refl
in_turn None false p w = refl
in_turn (Some q) b p w = refl

all_are_scanned : (n : List ℕ) (ds es : Names) → place_of n (all_entered ds es) ≡ first_of (place_of n es) (place_of n ds)
all_are_scanned n [] es = or_none (place_of n es)
all_are_scanned n (d ∷ ds) es =
    all_are_scanned n ds (entered d.0 d.1 es)
    ∙ ap (λ o. first_of o (place_of n ds)) (entered_is_scanned n d.0 d.1 es)
    ∙ in_turn (place_of n es) (bytes_eq n d.0) d.1 (place_of n ds)

pub entered_are_scanned : EnteredAreScanned
entered_are_scanned n ds = all_are_scanned n ds []

-- ---- the search

-- the names before `low` come before the name, and it comes before those from `high` on
pub record IsBetween (es : Names) (n : List ℕ) (low high : ℕ) : Type 0 where
  pub ordered : low ≤ high
  pub in_range : high ≤ length es
  pub before : (j : ℕ) → j < low → comes_before (name_at es j) n ≡ true
  pub after : (j : ℕ) → high ≤ j → j < length es → comes_before n (name_at es j) ≡ true

-- so many steps were taken, with that much left of the names; less is left only where one was counted
pub record IsCheap (all old now left : ℕ) : Type 0 where
  pub rising : old ≤ now
  pub counted : left < all → old < now
  pub halved : 2 ^ (now - old) * left ≤ all
  pub so_far : 2 ^ (now - old) ≤ 2 * all + 1

-- from the names with the middle's on
pub is_after_less : (es : Names) → IsRising es → (n : List ℕ) (low high middle : ℕ) → IsBetween es n low high → middle < high → comes_before (name_at es middle) n ≡ true → IsBetween es n (middle + 1) high
is_after_less es rising n low high middle h lt less = record {
  ordered = omega arith;
  in_range = h.in_range;
  before = λ j g. by j (eq-or-lt_of_le {n = j} {m = middle} (omega arith));
  after = h.after;
}
  where
    by : (j : ℕ) → (j ≡ middle) ⊎ (j < middle) → comes_before (name_at es j) n ≡ true
    by j (inl e) = ap (λ k. comes_before (name_at es k) n) e ∙ less
    by j (inr g) = before_next (name_at es j) (name_at es middle) n (rising j middle g (omega (arith, h.in_range))) less

pub is_before_greater : (es : Names) → IsRising es → (n : List ℕ) (low high middle : ℕ) → IsBetween es n low high → low ≤ middle → middle < high → comes_before n (name_at es middle) ≡ true → IsBetween es n low middle
is_before_greater es rising n low high middle h le lt greater = record {
  ordered = le;
  in_range = omega (arith, h.in_range);
  before = h.before;
  after = λ j g long. by j long (eq-or-lt_of_le g);
}
  where
    by : (j : ℕ) → j < length es → (middle ≡ j) ⊎ (middle < j) → comes_before n (name_at es j) ≡ true
    by j long (inl e) = ap (λ k. comes_before n (name_at es k)) (sym e) ∙ greater
    by j long (inr g) = before_next n (name_at es middle) (name_at es j) greater (rising middle j g long)

pub is_gap : (es : Names) (n : List ℕ) (low high : ℕ) → IsBetween es n low high → high ≤ low → IsGapFor es n low
is_gap es n low high h le = record { in_range = omega (arith, h.in_range, h.ordered); before = h.before; after = λ j g long. h.after j (omega arith) long }

pub begins : (all now : ℕ) → IsCheap all now now all
begins all now = record { rising = omega arith; counted = λ h. absurd (omega (arith, h)); halved = rw (one now) (omega arith); so_far = rw (one now) (omega arith) }
  where
    one : (n : ℕ) → 2 ^ (n - n) ≡ 1
    one n = let e : n - n ≡ 0 = omega arith in ap (λ k. 2 ^ k) e

-- one more step, after which at most half is left
pub one_more : (all old now left less : ℕ) → IsCheap all old now left → 2 * less ≤ left → 0 < left → IsCheap all old (now + 1) less
one_more all old now left less h half some = record { rising = omega (arith, h.rising); counted = λ l. omega (arith, h.rising); halved = halved; so_far = so_far }
  where
    doubled : 2 ^ (now + 1 - old) ≡ 2 ^ (now - old) * 2
    doubled = let e : now + 1 - old ≡ suc (now - old) = omega (arith, h.rising) in ap (λ k. 2 ^ k) e ∙ pow-suc 2 (now - old)

    halved : 2 ^ (now + 1 - old) * less ≤ all
    halved = let e : 2 ^ (now - old) * (2 * less) ≤ 2 ^ (now - old) * left = mul-le-mul_left (2 ^ (now - old)) half in rw doubled (omega (arith, h.halved, e))

    so_far : 2 ^ (now + 1 - old) ≤ 2 * all + 1
    so_far = let e : 2 ^ (now - old) * 1 ≤ 2 ^ (now - old) * left = mul-le-mul_left (2 ^ (now - old)) some in rw doubled (omega (arith, h.halved, e))

pub middle_below : (low high : ℕ) → low < high → low + (high - low) / 2 < high
middle_below low high h = omega arith

pub upper_half : (low high : ℕ) → low < high → 2 * (high - (low + (high - low) / 2 + 1)) ≤ high - low
upper_half low high h = omega arith

pub lower_half : (low high : ℕ) → low < high → 2 * (low + (high - low) / 2 - low) ≤ high - low
lower_half low high h = omega arith

-- ---- what a comparison says of the name at an index

module _ (es : Names) (n : List ℕ) (i : ℕ) (e : List ℕ × ℕ) (lt : i < length es) (is : e ≡ get_or es i e) where
  pub stands : name_at es i ≡ e.0
  stands = ap (λ d. d.0) (sym (is ∙ get_or_default es i e ([], 0) lt))

  here_is : (o : Ordering) → o ≡ slice_cmp nat_cmp (get_or es i e).0 n → slice_cmp nat_cmp e.0 n ≡ o
  here_is o h = ap (λ (d : List ℕ × ℕ). slice_cmp nat_cmp d.0 n) is ∙ sym h

  pub is_less : Less ≡ slice_cmp nat_cmp (get_or es i e).0 n → comes_before (name_at es i) n ≡ true
  is_less h = ap (λ m. comes_before m n) stands ∙ ap is_lt (here_is Less h)

  pub is_greater : Greater ≡ slice_cmp nat_cmp (get_or es i e).0 n → comes_before n (name_at es i) ≡ true
  is_greater h = ap (comes_before n) stands ∙ ap is_lt (nat_list_cmp_total.antisymm n e.0) ∙ ap (λ o. is_lt (ordering_reverse o)) (here_is Greater h)

  pub is_equal : Equal ≡ slice_cmp nat_cmp (get_or es i e).0 n → IsAt es n i
  is_equal h = record { in_range = lt; has_name = stands ∙ (bytes_eq-Decides e.0 n).0 (sym (is_eq-slice_cmp e.0 n) ∙ ap is_eq (here_is Equal h)) }
