-- The first free number, and what is given with it.
use Rattle.std.proofs.Common.{◌≡◌, ◌<◌, ◌≤◌, ◌⊎◌, inl, inr, ◌^◌, ◌+◌, ◌++◌, ℕ, zero, suc, List, [], ◌∷◌, length, Bool, true, false, ◌&&◌, ◌||◌, not, cond, decimal, bytes_eq, codes, refl, sym, ap, ◌∙◌, true≢false, subst, arith}
use Rattle.std.specs.Prelude.{◌==◌}
use Rattle.std.proofs.lemmas.Bool.{cases_lt, eqb-true}
use Rattle.std.proofs.lemmas.Slice.Eq.{bytes_eq-Decides}
use Rattle.std.specs.BTreeSet.{contains_text}
use Rattle.schema_defs.proofs.Places.{places_differ}
use Rattle.naming_defs.specs.Names.{Names, is_among, numbered, first_free, free_name, given_name, as_value, taking, prelude_values, values, item_is_good}
use Rattle.naming_defs.specs.Good.{is_good_name}
use Rattle.good_names.specs.Given.{is_used, has_value, nothing_off, StandsWithin, Stands, DoesWithin, Does, name_given_by, number_given, item_given}
use Rattle.good_names.specs.declared.given.GivenNames.{GivenNames}
use Rattle.naming_defs.proofs.Free.{free-name}

pub written : (p : List ℕ) (n : ℕ) → n < 2 ^ 64 → p ++ decimal n ≡ numbered p n
written p n l = ap (λ z. p ++ z) (sym (places_differ.1 n l))

-- ---- the least free number is the first

module _ (prefix : List ℕ) (used : Names) (j : ℕ) (free : is_among (numbered prefix j) used ≡ false) where
  abbrev UsedFrom : ℕ → Type 0
  UsedFrom i = (l : ℕ) → i ≤ l → l < j → is_among (numbered prefix l) used ≡ true

  reached : (i : ℕ) → i ≤ j → UsedFrom i → is_among (numbered prefix i) used ≡ false → numbered prefix i ≡ numbered prefix j
  reached i h b e = elim (cases_lt i j) [
    | inl l ↦ absurd (true≢false (sym (b i (omega arith) l) ∙ e))
    | inr l ↦ (let same : i ≡ j = omega arith in ap (numbered prefix) same)
  ]

  further : (i : ℕ) → i ≤ j → is_among (numbered prefix i) used ≡ true → suc i ≤ j
  further i h e = elim (cases_lt i j) [
    | inl l ↦ omega arith
    | inr l ↦ (let same : i ≡ j = omega arith in absurd (true≢false (sym e ∙ ap (λ k. is_among (numbered prefix k) used) same ∙ free)))
  ]

  first_is : (k i : ℕ) → i ≤ j → UsedFrom i → is_among (first_free prefix used k i) used ≡ false → first_free prefix used k i ≡ numbered prefix j
  first_is zero i h b e = reached i h b e
  first_is (suc k) i h b e = by (is_among (numbered prefix i) used) refl (first_is k (suc i)) e
    where
      by : (c : Bool) → is_among (numbered prefix i) used ≡ c
          → (suc i ≤ j → UsedFrom (suc i) → is_among (first_free prefix used k (suc i)) used ≡ false → first_free prefix used k (suc i) ≡ numbered prefix j)
          → is_among (cond c (first_free prefix used k (suc i)) (numbered prefix i)) used ≡ false → cond c (first_free prefix used k (suc i)) (numbered prefix i) ≡ numbered prefix j
      by true s g f = g (further i h s) (λ l p q. b l (omega arith) q) f
      by false s g f = reached i h b s

  pub free_name_is : UsedFrom 0 → free_name prefix used ≡ numbered prefix j
  free_name_is b = first_is (length used) 0 (omega arith) b (free-name prefix used)

-- ---- names in sets

grouped : (a b c : Bool) → (a || (b || c)) ≡ ((a || b) || c)
grouped true b c = refl
grouped false b c = refl

swapped : (a b c : Bool) → (a || (b || c)) ≡ (b || (a || c))
swapped true true c = refl
swapped true false c = refl
swapped false b c = refl

pub among_both : (n : List ℕ) (xs ys : Names) → is_among n (xs ++ ys) ≡ (is_among n xs || is_among n ys)
among_both n [] ys = refl
among_both n (x ∷ xs) ys = ap (λ z. bytes_eq n x || z) (among_both n xs ys) ∙ grouped (bytes_eq n x) (is_among n xs) (is_among n ys)

used_is : (off : List ℕ → Bool) (s : GivenNames) (p : List ℕ) (t b : Names) → StandsWithin off s p t b → (n : List ℕ) → (off n || is_used s n) ≡ is_among n (t ++ b)
used_is off s p t b h n =
    grouped (off n) (contains_text s.given n) (contains_text s.beside n) ∙ (λ i. h.given_are n i || h.beside_are n i) ∙ sym (among_both n t b)

more_among : (n m : List ℕ) (ns : Names) → is_among n ns ≡ true → is_among n (m ∷ ns) ≡ true
more_among n m ns h = by (bytes_eq n m)
  where
    by : (c : Bool) → (c || is_among n ns) ≡ true
    by true = refl
    by false = h

first_among : (m n : List ℕ) (ns : Names) → m ≡ n → is_among m (n ∷ ns) ≡ true
first_among m n ns e = ap (λ c. c || is_among m ns) ((bytes_eq-Decides m n).1 e)

last_among : (n m : List ℕ) (ns : Names) → is_among m (ns ++ n ∷ []) ≡ (bytes_eq m n || is_among m ns)
last_among n m ns = among_both m ns (n ∷ []) ∙ by (bytes_eq m n) (is_among m ns)
  where
    by : (a b : Bool) → (b || (a || false)) ≡ (a || b)
    by true true = refl
    by true false = refl
    by false true = refl
    by false false = refl

still_among : (n m : List ℕ) (t b : Names) → is_among m (t ++ b) ≡ true → is_among m (t ++ (b ++ n ∷ [])) ≡ true
still_among n m t b h = among_both m t (b ++ n ∷ []) ∙ (λ i. is_among m t || last_among n m b i) ∙ by (is_among m t) (is_among m b) (bytes_eq m n) (sym (among_both m t b) ∙ h)
  where
    by : (x y z : Bool) → (x || y) ≡ true → (x || (z || y)) ≡ true
    by true y z e = refl
    by false true true e = refl
    by false true false e = refl
    by false false z e = absurd (true≢false (sym e))

abbrev first_of : List ℕ → ℕ
first_of [] = 0
first_of (c ∷ cs) = c

pub stands_new : (s : GivenNames) → ((n : List ℕ) → contains_text s.given n ≡ false) → ((n : List ℕ) → contains_text s.beside n ≡ false) → s.next ≡ 0 → (p : List ℕ) → Stands s p [] []
stands_new s g b z p = record {
  given_are = g;
  beside_are = b;
  below = λ i l. absurd (omega (arith, z, l));
}

pub stands_wanted : (s r : GivenNames) (n : List ℕ) → r.given ≡ s.given → r.next ≡ s.next → ((m : List ℕ) → contains_text r.beside m ≡ (bytes_eq m n || contains_text s.beside m))
    → (p : List ℕ) (t b : Names) → Stands s p t b → Stands r p t (b ++ n ∷ [])
stands_wanted s r n g z h p t b st = record {
  given_are = λ m. ap (λ x. contains_text x m) g ∙ st.given_are m;
  beside_are = λ m. h m ∙ ap (λ x. bytes_eq m n || x) (st.beside_are m) ∙ sym (last_among n m b);
  below = λ i l. still_among n (numbered p i) t b (st.below i (subst (λ k. i < k) z l));
}

-- ---- one more name

module _ (off : List ℕ → Bool) (s r : GivenNames) (n : List ℕ) (g : r.beside ≡ s.beside) (z : r.next ≡ s.next) (h : (k : List ℕ) → contains_text r.given k ≡ (bytes_eq k n || contains_text s.given k)) where
  stands_given : (p : List ℕ) (t b : Names) → StandsWithin off s p t b → StandsWithin off r p (n ∷ t) b
  stands_given p t b st = record {
    given_are = λ k. ap (λ x. off k || x) (h k) ∙ swapped (off k) (bytes_eq k n) (contains_text s.given k) ∙ ap (λ x. bytes_eq k n || x) (st.given_are k);
    beside_are = λ k. ap (λ x. contains_text x k) g ∙ st.beside_are k;
    below = λ i l. more_among (numbered p i) n (t ++ b) (st.below i (subst (λ k. i < k) z l));
  }

  -- the name that was wanted is given
  pub name_is_given : (m : List ℕ) (fits : Bool) → m ≡ n → (fits && not (off n || contains_text s.given n)) ≡ true → (p : List ℕ) (w : List ℕ → Bool) → w n ≡ fits → DoesWithin off p s r m (name_given_by w p n)
  name_is_given m fits is may p w good = record {
    step = λ b t st.
        let e : given_name w p t b n ≡ n =
        ap (λ c. cond (c && not (is_among n t)) n (free_name p (t ++ b))) good ∙ ap (λ c. cond (fits && not c) n (free_name p (t ++ b))) (sym (st.given_are n)) ∙ ap (λ c. cond c n (free_name p (t ++ b))) may in
        (is ∙ sym e, subst (λ (x : List ℕ). StandsWithin off r p (x ∷ t) b) (sym e) (stands_given p t b st));
  }

pub stands_taken : (s r : GivenNames) (n : List ℕ) → r.beside ≡ s.beside → r.next ≡ s.next → ((k : List ℕ) → contains_text r.given k ≡ (bytes_eq k n || contains_text s.given k))
    → (p : List ℕ) (t b : Names) → Stands s p t b → Stands r p (n ∷ t) b
stands_taken s r n g z h p t b st = stands_given nothing_off s r n g z h p t b st

-- a number is given in its place
pub number_for_name : (off : List ℕ → Bool) (s r : GivenNames) (p n m : List ℕ) (fits : Bool) → (fits && not (off n || contains_text s.given n)) ≡ false → DoesWithin off p s r m (number_given p)
    → (w : List ℕ → Bool) → w n ≡ fits → DoesWithin off p s r m (name_given_by w p n)
number_for_name off s r p n m fits may d w good = record {
  step = λ b t st.
      let e : given_name w p t b n ≡ free_name p (t ++ b) =
      ap (λ c. cond (c && not (is_among n t)) n (free_name p (t ++ b))) good ∙ ap (λ c. cond (fits && not c) n (free_name p (t ++ b))) (sym (st.given_are n)) ∙ ap (λ c. cond c n (free_name p (t ++ b))) may in
      let a = d.step b t st in
      (a.0 ∙ sym e, subst (λ (x : List ℕ). StandsWithin off r p (x ∷ t) b) (sym e) a.1);
}

-- a number is given
module _ (off : List ℕ → Bool) (s r : GivenNames) (p n : List ℕ) (j : ℕ) (is : n ≡ numbered p j) (free : (off (numbered p j) || is_used s (numbered p j)) ≡ false)
    (used : (i : ℕ) → s.next ≤ i → i < j → (off (numbered p i) || is_used s (numbered p i)) ≡ true)
    (g : r.beside ≡ s.beside) (z : r.next ≡ j + 1) (h : (m : List ℕ) → contains_text r.given m ≡ (bytes_eq m n || contains_text s.given m)) where
  module _ (b t : Names) (st : StandsWithin off s p t b) where
    below : (l : ℕ) → l < j → is_among (numbered p l) (t ++ b) ≡ true
    below l q = elim (cases_lt l s.next) [
      | inl k ↦ st.below l k
      | inr k ↦ sym (used_is off s p t b st (numbered p l)) ∙ used l k q
    ]

    number_is : n ≡ free_name p (t ++ b)
    number_is = is ∙ sym (free_name_is p (t ++ b) j (sym (used_is off s p t b st (numbered p j)) ∙ free) (λ l a q. below l q))

    later : (i : ℕ) → i < r.next → is_among (numbered p i) (n ∷ (t ++ b)) ≡ true
    later i l = elim (cases_lt i j) [
      | inl k ↦ more_among (numbered p i) n (t ++ b) (below i k)
      | inr k ↦ (let same : i ≡ j = omega (arith, z, l, k) in first_among (numbered p i) n (t ++ b) (ap (numbered p) same ∙ sym is))
    ]

    stands_numbered : StandsWithin off r p (n ∷ t) b
    stands_numbered = record {
      given_are = λ m. ap (λ x. off m || x) (h m) ∙ swapped (off m) (bytes_eq m n) (contains_text s.given m) ∙ ap (λ x. bytes_eq m n || x) (st.given_are m);
      beside_are = λ m. ap (λ x. contains_text x m) g ∙ st.beside_are m;
      below = later;
    }

  pub number_is_given : DoesWithin off p s r n (number_given p)
  number_is_given = record {
    step = λ b t st. (number_is b t st, subst (λ (x : List ℕ). StandsWithin off r p (x ∷ t) b) (number_is b t st) (stands_numbered b t st));
  }

-- ---- names of items, and of fields of variants

pub no_value_taken : (s : GivenNames) (n : List ℕ) (v : Bool) → v ≡ false → (p : List ℕ) (t b : Names) → Stands s p (n ∷ t) b → Stands s p (taking v n t) b
no_value_taken s n v e p t b st = subst (λ (x : Bool). Stands s p (taking x n t) b) (sym e) st

pub value_taken : (s r : GivenNames) (n m : List ℕ) (v : Bool) → v ≡ true → m ≡ as_value n → ((p : List ℕ) (t b : Names) → Stands s p t b → Stands r p (m ∷ t) b)
    → (p : List ℕ) (t b : Names) → Stands s p (n ∷ t) b → Stands r p (taking v n t) b
value_taken s r n m v e is k p t b st =
    subst (λ (x : Bool). Stands r p (taking x n t) b) (sym e) (subst (λ (x : List ℕ). Stands r p (x ∷ n ∷ t) b) is (k p (n ∷ t) b st))

pub given_as : (off : List ℕ → Bool) (p : List ℕ) (s r : GivenNames) (n w : List ℕ) (fits : Bool) (g : List ℕ → Bool) → ((g : List ℕ → Bool) → g w ≡ fits → DoesWithin off p s r n (name_given_by g p w)) → fits ≡ g w
    → DoesWithin off p s r n (name_given_by g p w)
given_as off p s r n w fits g d e = d g (sym e)

abbrev T : List ℕ
T = codes "Type"

pub item_is_given : (s m r : GivenNames) (n k w : List ℕ) (v fits : Bool) → ((g : List ℕ → Bool) → g w ≡ fits → Does T s m n (name_given_by g T w)) → fits ≡ item_is_good is_good_name w → k ≡ n
    → ((p : List ℕ) (t b : Names) → Stands m p (k ∷ t) b → Stands r p (taking v k t) b) → Does T s r n (item_given v w)
item_is_given s m r n k w v fits d good same f = record {
  step = λ b t st.
      let a = (d (item_is_good is_good_name) (sym good)).step b t st in
      let is = same ∙ a.0 in
      let after = f T t b (subst (λ (x : List ℕ). Stands m T (x ∷ t) b) (sym is) a.1) in
      (a.0, subst (λ (x : List ℕ). Stands r T (taking v x t) b) is after);
}

-- ---- values among names that are taken

itself : (c d : ℕ) → (c == d) ≡ true → c ≡ d
itself c d h = eqb-true c d h

head_same : (n m : List ℕ) (c : ℕ) → c ≡ 40 → bytes_eq (as_value n) (c ∷ m) ≡ bytes_eq n m
head_same n m c e = ap (λ x. bytes_eq (as_value n) (x ∷ m)) e

head_other : (n m : List ℕ) (c : ℕ) → (c == 40) ≡ false → bytes_eq (as_value n) (c ∷ m) ≡ false
head_other n m c e = by (bytes_eq (as_value n) (c ∷ m)) refl
  where
    by : (b : Bool) → bytes_eq (as_value n) (c ∷ m) ≡ b → b ≡ false
    by true k = absurd (true≢false (ap (λ x. first_of x == 40) ((bytes_eq-Decides (as_value n) (c ∷ m)).0 k) ∙ e))
    by false k = refl

pub among_values : (n : List ℕ) (t : Names) → is_among n (values t) ≡ (is_among n prelude_values || is_among (as_value n) t)
among_values n [] = or_false (is_among n prelude_values)
  where
    or_false : (a : Bool) → a ≡ (a || false)
    or_false true = refl
    or_false false = refl
among_values n ([] ∷ t) = among_values n t
among_values n ((c ∷ m) ∷ t) = by (c == 40) refl (among_values n t)
  where
    by : (b : Bool) → (c == 40) ≡ b → is_among n (values t) ≡ (is_among n prelude_values || is_among (as_value n) t)
        → is_among n (cond b (m ∷ values t) (values t)) ≡ (is_among n prelude_values || (bytes_eq (as_value n) (c ∷ m) || is_among (as_value n) t))
    by true e h =
        ap (λ x. bytes_eq n m || x) h ∙ swapped (bytes_eq n m) (is_among n prelude_values) (is_among (as_value n) t)
        ∙ ap (λ x. is_among n prelude_values || (x || is_among (as_value n) t)) (sym (head_same n m c (itself c 40 e)))
    by false e h = h ∙ ap (λ x. is_among n prelude_values || (x || is_among (as_value n) t)) (sym (head_other n m c e))

-- fields of a variant begin with the values that are taken by then
pub begins_within : (s items : GivenNames) (p q : List ℕ) (t b c : Names) → Stands s p [] b → Stands items q t c → StandsWithin (has_value items) s p (values t) b
begins_within s items p q t b c st of = record {
  given_are = λ n. ap (λ x. has_value items n || x) (st.given_are n) ∙ or_none (has_value items n) ∙ ap (λ x. is_among n prelude_values || x) (of.given_are (as_value n)) ∙ sym (among_values n t);
  beside_are = st.beside_are;
  below = λ i l. among_both (numbered p i) (values t) b ∙ or_right (is_among (numbered p i) (values t)) (is_among (numbered p i) b) (st.below i l);
}
  where
    or_none : (a : Bool) → (a || false) ≡ a
    or_none true = refl
    or_none false = refl

    or_right : (a b : Bool) → b ≡ true → (a || b) ≡ true
    or_right true b h = refl
    or_right false b h = h
