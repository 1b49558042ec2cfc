-- Merging bounds and multiples meets what both sides say of a number.
use Rattle.std.proofs.Common.{◌≡◌, ℕ, ◌≤◌, ◌<◌, ℤ, pos, negsuc, [], ◌∷◌, Bool, true, false, ◌&&◌, not, Option, Some, None, refl, ap, sym, ◌∙◌, arith}
use Rattle.std.specs.Prelude.{if◌then◌else◌, nat_le, nat_lt, int_le, int_lt, int_rem}
use Rattle.std.specs.Ordering.{int_eq}
use Rattle.std.proofs.lemmas.Bool.{le-leb, leb-true, leb-false}
use Rattle.std.proofs.lemmas.Bool.Decides.{Decides-ltb}
use Rattle.json_value.specs.Value as value
use Rattle.json_value.specs.Value.{Value, null, number, fraction, text, list}
use Rattle.schema_defs.specs.Schema.{Numbers}
use Rattle.schema_defs.specs.Layer.{if_given, numbers_agree}
use Rattle.merge_defs.specs.Outcome.{answer, noted, note_if, never_unless, more_than, of_integer, of_clash, either, has_way, widened}
use Rattle.merge_defs.specs.Alike.{same_numbers}
use Rattle.merge_defs.specs.Leaves.{lcm, least_int, greatest_int, Bound, unbounded, inclusive, exclusive, upper_bound, lower_bound, if_inclusive, if_exclusive, bounds_cross, small_multiple, is_wide, numbers_of, bounded, greatest_u64}
use Rattle.merge_laws.specs.Laws.{Meets, Given, ProperNumbers}
use Rattle.merge_laws.proofs.Steps.{no_no, and-1, and-2, and-in, meets-exactly, meets-never}
use Rattle.merge_laws.proofs.Sizes.{either_says, and-pairs}
use Rattle.merge_laws.proofs.Members.{meets-weigh}
use Rattle.merge_laws.proofs.Whole.{NumbersMeet, numbers_say, is_number, given_true}
use Rattle.merge_laws.proofs.Likeness.{numbers_sound}

-- ---- the order of whole numbers, as tests

lt_true : (a b : ℕ) → nat_lt a b ≡ true → a < b
lt_true a b = (Decides-ltb a b).0

true_lt : (a b : ℕ) → a < b → nat_lt a b ≡ true
true_lt a b = (Decides-ltb a b).1

le_le : (a b c : ℤ) → int_le a b ≡ true → int_le b c ≡ true → int_le a c ≡ true
le_le (pos a) (pos b) (pos c) h k = let p = leb-true a b h in let q = leb-true b c k in le-leb a c (omega (arith, p, q))
le_le (negsuc a) (negsuc b) (negsuc c) h k = let p = leb-true b a h in let q = leb-true c b k in le-leb c a (omega (arith, p, q))
le_le (negsuc a) b (pos c) h k = refl
le_le (pos a) (negsuc b) c h k = no_no h
le_le (pos a) (pos b) (negsuc c) h k = no_no k
le_le (negsuc a) (pos b) (negsuc c) h k = no_no k

lt_le : (a b c : ℤ) → int_lt a b ≡ true → int_le b c ≡ true → int_lt a c ≡ true
lt_le (pos a) (pos b) (pos c) h k = let p = lt_true a b h in let q = leb-true b c k in true_lt a c (omega (arith, p, q))
lt_le (negsuc a) (negsuc b) (negsuc c) h k = let p = lt_true b a h in let q = leb-true c b k in true_lt c a (omega (arith, p, q))
lt_le (negsuc a) b (pos c) h k = refl
lt_le (pos a) (negsuc b) c h k = no_no h
lt_le (pos a) (pos b) (negsuc c) h k = no_no k
lt_le (negsuc a) (pos b) (negsuc c) h k = no_no k

le_lt : (a b c : ℤ) → int_le a b ≡ true → int_lt b c ≡ true → int_lt a c ≡ true
le_lt (pos a) (pos b) (pos c) h k = let p = leb-true a b h in let q = lt_true b c k in true_lt a c (omega (arith, p, q))
le_lt (negsuc a) (negsuc b) (negsuc c) h k = let p = leb-true b a h in let q = lt_true c b k in true_lt c a (omega (arith, p, q))
le_lt (negsuc a) b (pos c) h k = refl
le_lt (pos a) (negsuc b) c h k = no_no h
le_lt (pos a) (pos b) (negsuc c) h k = no_no k
le_lt (negsuc a) (pos b) (negsuc c) h k = no_no k

lt_weak : (a b : ℤ) → int_lt a b ≡ true → int_le a b ≡ true
lt_weak (pos a) (pos b) h = let p = lt_true a b h in le-leb a b (omega (arith, p))
lt_weak (negsuc a) (negsuc b) h = let p = lt_true b a h in le-leb b a (omega (arith, p))
lt_weak (negsuc a) (pos b) h = refl
lt_weak (pos a) (negsuc b) h = no_no h

not_le : (a b : ℤ) → int_le a b ≡ false → int_lt b a ≡ true
not_le (pos a) (pos b) h = true_lt b a (leb-false a b h)
not_le (negsuc a) (negsuc b) h = true_lt a b (leb-false b a h)
not_le (negsuc a) (pos b) h = no_no (sym h)
not_le (pos a) (negsuc b) h = refl

no_lt : (a : ℤ) → int_lt a a ≡ true → ⊥
no_lt (pos a) h = let p = lt_true a a h in absurd (omega (arith, p))
no_lt (negsuc a) h = let p = lt_true a a h in absurd (omega (arith, p))

-- ---- the tighter bound says what both say

tighter_1 : (a b : Bool) → (a ≡ true → b ≡ true) → a ≡ (a && b)
tighter_1 true b h = sym (h refl)
tighter_1 false b h = refl

tighter_2 : (a b : Bool) → (b ≡ true → a ≡ true) → b ≡ (a && b)
tighter_2 true b h = refl
tighter_2 false true h = sym (h refl)
tighter_2 false false h = refl

least_le : (z a b : ℤ) → int_le z (least_int a b) ≡ (int_le z a && int_le z b)
least_le z a b = go (int_le a b) refl
  where
    go : (t : Bool) → int_le a b ≡ t → int_le z (if t then a else b) ≡ (int_le z a && int_le z b)
    go true e = tighter_1 _ _ (λ h. le_le z a b h e)
    go false e = tighter_2 _ _ (λ h. le_le z b a h (lt_weak b a (not_le a b e)))

least_lt : (z a b : ℤ) → int_lt z (least_int a b) ≡ (int_lt z a && int_lt z b)
least_lt z a b = go (int_le a b) refl
  where
    go : (t : Bool) → int_le a b ≡ t → int_lt z (if t then a else b) ≡ (int_lt z a && int_lt z b)
    go true e = tighter_1 _ _ (λ h. lt_le z a b h e)
    go false e = tighter_2 _ _ (λ h. lt_le z b a h (lt_weak b a (not_le a b e)))

greatest_le : (z a b : ℤ) → int_le (greatest_int a b) z ≡ (int_le a z && int_le b z)
greatest_le z a b = go (int_le a b) refl
  where
    go : (t : Bool) → int_le a b ≡ t → int_le (if t then b else a) z ≡ (int_le a z && int_le b z)
    go true e = tighter_2 _ _ (λ h. le_le a b z e h)
    go false e = tighter_1 _ _ (λ h. le_le b a z (lt_weak b a (not_le a b e)) h)

greatest_lt : (z a b : ℤ) → int_lt (greatest_int a b) z ≡ (int_lt a z && int_lt b z)
greatest_lt z a b = go (int_le a b) refl
  where
    go : (t : Bool) → int_le a b ≡ t → int_lt (if t then b else a) z ≡ (int_lt a z && int_lt b z)
    go true e = tighter_2 _ _ (λ h. le_lt a b z e h)
    go false e = tighter_1 _ _ (λ h. le_lt b a z (lt_weak b a (not_le a b e)) h)

abbrev up : ℤ → Bound → Bool
up z unbounded = true
up z (inclusive u) = int_le z u
up z (exclusive u) = int_lt z u

abbrev down : ℤ → Bound → Bool
down z unbounded = true
down z (inclusive l) = int_le l z
down z (exclusive l) = int_lt l z

and-true : (b : Bool) → b ≡ (b && true)
and-true true = refl
and-true false = refl

upper_says : (z : ℤ) (i e : Option ℤ) → up z (upper_bound i e) ≡ (if_given (λ b. int_le z b) i && if_given (λ b. int_lt z b) e)
upper_says z None None = refl
upper_says z (Some i) None = and-true (int_le z i)
upper_says z None (Some e) = refl
upper_says z (Some i) (Some e) = go (int_le e i) refl
  where
    go : (t : Bool) → int_le e i ≡ t → up z (if t then exclusive e else inclusive i) ≡ (int_le z i && int_lt z e)
    go true h = tighter_2 _ _ (λ k. le_le z e i (lt_weak z e k) h)
    go false h = tighter_1 _ _ (λ k. le_lt z i e k (not_le e i h))

lower_says : (z : ℤ) (i e : Option ℤ) → down z (lower_bound i e) ≡ (if_given (λ b. int_le b z) i && if_given (λ b. int_lt b z) e)
lower_says z None None = refl
lower_says z (Some i) None = and-true (int_le i z)
lower_says z None (Some e) = refl
lower_says z (Some i) (Some e) = go (int_le i e) refl
  where
    go : (t : Bool) → int_le i e ≡ t → down z (if t then exclusive e else inclusive i) ≡ (int_le i z && int_lt e z)
    go true h = tighter_2 _ _ (λ k. le_le i e z h (lt_weak e z k))
    go false h = tighter_1 _ _ (λ k. lt_le e i z (not_le i e h) k)

cross_none : (z : ℤ) (l u : Bound) → bounds_cross l u ≡ true → down z l ≡ true → up z u ≡ true → ⊥
cross_none z unbounded u h a b = no_no h
cross_none z (inclusive l) unbounded h a b = no_no h
cross_none z (exclusive l) unbounded h a b = no_no h
cross_none z (inclusive l) (inclusive u) h a b = no_lt u (lt_le u l u h (le_le l z u a b))
cross_none z (inclusive l) (exclusive u) h a b = no_lt l (lt_le l u l (le_lt l z u a b) h)
cross_none z (exclusive l) (inclusive u) h a b = no_lt l (lt_le l u l (lt_le l z u a b) h)
cross_none z (exclusive l) (exclusive u) h a b = no_lt l (lt_le l u l (lt_le l z u a (lt_weak z u b)) h)

-- ---- the row

abbrev pub multiple : ℤ → ℕ → Bool
multiple z m = int_eq (int_rem z (pos m)) (pos 0)

-- what is owed of the least common multiple
pub record LcmFacts : Type 0 where
  pub multiples : (z : ℤ) (a b : ℕ) → 1 ≤ a → 1 ≤ b → multiple z (lcm a b) ≡ (multiple z a && multiple z b)
  pub positive : (a b : ℕ) → 1 ≤ a → 1 ≤ b → 1 ≤ lcm a b

module _ (facts : LcmFacts) where
  multiples_say : (z : ℤ) (x y : Option ℕ) → Given (λ m. 1 ≤ m) x → Given (λ m. 1 ≤ m) y → if_given (multiple z) (either lcm x y) ≡ (if_given (multiple z) x && if_given (multiple z) y)
  multiples_say z None y p q = refl
  multiples_say z (Some a) None p q = and-true (multiple z a)
  multiples_say z (Some a) (Some b) p q = facts.multiples z a b p q

  positive_either : (x y : Option ℕ) → Given (λ m. 1 ≤ m) x → Given (λ m. 1 ≤ m) y → Given (λ m. 1 ≤ m) (small_multiple (either lcm x y))
  positive_either x y p q = small (either lcm x y) (both x y p q)
    where
      both : (x y : Option ℕ) → Given (λ m. 1 ≤ m) x → Given (λ m. 1 ≤ m) y → Given (λ m. 1 ≤ m) (either lcm x y)
      both None y p q = q
      both (Some a) None p q = p
      both (Some a) (Some b) p q = facts.positive a b p q

      small : (o : Option ℕ) → Given (λ m. 1 ≤ m) o → Given (λ m. 1 ≤ m) (small_multiple o)
      small None h = tt
      small (Some m) h = go (nat_le m greatest_u64)
        where
          go : (t : Bool) → Given (λ m. 1 ≤ m) (if t then Some m else None)
          go true = h
          go false = tt

  -- what a multiple and two bounds say of a value
  abbrev says : Value → Option ℕ → Bound → Bound → Bool
  says (number z) m l u = if_given (multiple z) m && (up z u && down z l)
  says _ m l u = true

  made_says : (v : Value) (m : Option ℕ) (l u : Bound) → if_given (numbers_say v) (numbers_of m l u) ≡ says v m l u
  made_says (number z) m l u = made m l u
    where
      turn : (a b c d e : Bool) → ((((a && b) && c) && d) && e) ≡ (a && ((b && c) && (d && e)))
      turn false b c d e = refl
      turn true false c d e = refl
      turn true true false d e = refl
      turn true true true d e = refl

      upper : (u : Bound) → (if_given (λ b. int_le z b) (if_inclusive u) && if_given (λ b. int_lt z b) (if_exclusive u)) ≡ up z u
      upper unbounded = refl
      upper (inclusive i) = sym (and-true (int_le z i))
      upper (exclusive e) = refl

      lower : (l : Bound) → (if_given (λ b. int_le b z) (if_inclusive l) && if_given (λ b. int_lt b z) (if_exclusive l)) ≡ down z l
      lower unbounded = refl
      lower (inclusive i) = sym (and-true (int_le i z))
      lower (exclusive e) = refl

      whole : (m : Option ℕ) (l u : Bound) → numbers_agree z (record { multiple_of = m; maximum = if_inclusive u; exclusive_maximum = if_exclusive u; minimum = if_inclusive l; exclusive_minimum = if_exclusive l }) ≡ (if_given (multiple z) m && (up z u && down z l))
      whole m l u = turn (if_given (multiple z) m) (if_given (λ b. int_le z b) (if_inclusive u)) (if_given (λ b. int_lt z b) (if_exclusive u)) (if_given (λ b. int_le b z) (if_inclusive l)) (if_given (λ b. int_lt b z) (if_exclusive l))
          ∙ (λ i. if_given (multiple z) m && (upper u i && lower l i))

      made : (m : Option ℕ) (l u : Bound) → if_given (numbers_agree z) (numbers_of m l u) ≡ (if_given (multiple z) m && (up z u && down z l))
      made None unbounded unbounded = refl
      made (Some m) l u = whole (Some m) l u
      made None (inclusive x) u = whole None (inclusive x) u
      made None (exclusive x) u = whole None (exclusive x) u
      made None unbounded (inclusive x) = whole None unbounded (inclusive x)
      made None unbounded (exclusive x) = whole None unbounded (exclusive x)
  made_says v m l u = given_true (numbers_say v) (numbers_of m l u) (λ n. refl)

  proper_made : (m : Option ℕ) (l u : Bound) → Given (λ m. 1 ≤ m) m → Given ProperNumbers (numbers_of m l u)
  proper_made None unbounded unbounded h = tt
  proper_made (Some m) l u h = h
  proper_made None (inclusive x) u h = tt
  proper_made None (exclusive x) u h = tt
  proper_made None unbounded (inclusive x) h = tt
  proper_made None unbounded (exclusive x) h = tt

  bounded_meets : (v : Value) (c whole : Bool) → (c ≡ true → whole ≡ true → is_number v ≡ true) → (m : Option ℕ) (l u : Bound) → Given (λ m. 1 ≤ m) m
      → Meets (Given ProperNumbers) (c && says v m l u) (λ o. c && if_given (numbers_say v) o) (bounded whole m l u)
  bounded_meets v c whole known m l u p = go (bounds_cross l u) refl
    where
      crossed : (v : Value) → is_number v ≡ true → bounds_cross l u ≡ true → says v m l u ≡ true → ⊥
      crossed (number z) k h t = let a = and-2 (if_given (multiple z) m) _ t in cross_none z l u h (and-2 (up z u) _ a) (and-1 (up z u) _ a)
      crossed null k h t = no_no k
      crossed (value.boolean b) k h t = no_no k
      crossed fraction k h t = no_no k
      crossed (text s) k h t = no_no k
      crossed (list xs) k h t = no_no k
      crossed (value.object ms) k h t = no_no k

      go : (t : Bool) → bounds_cross l u ≡ t → Meets (Given ProperNumbers) (c && says v m l u) (λ o. c && if_given (numbers_say v) o) (if t then never_unless whole of_clash else answer [] (numbers_of m l u))
      go true h = meets-never (Given ProperNumbers) (c && says v m l u) (λ o. c && if_given (numbers_say v) o) whole of_clash (λ k t. crossed v (known (and-1 c _ t) k) h (and-2 c _ t))
      go false h = meets-exactly (Given ProperNumbers) (c && says v m l u) (λ o. c && if_given (numbers_say v) o) [] (numbers_of m l u) (proper_made m l u p) (ap (λ b. c && b) (made_says v m l u))

  abbrev High : Numbers → Numbers → Bound
  High x y = upper_bound (either least_int x.maximum y.maximum) (either least_int x.exclusive_maximum y.exclusive_maximum)

  abbrev Low : Numbers → Numbers → Bound
  Low x y = lower_bound (either greatest_int x.minimum y.minimum) (either greatest_int x.exclusive_minimum y.exclusive_minimum)

  -- both sides, by a multiple that may be wide and the tighter bounds
  both_say : (v : Value) (x y : Numbers) → ProperNumbers x → ProperNumbers y → (numbers_say v x && numbers_say v y) ≡ says v (either lcm x.multiple_of y.multiple_of) (Low x y) (High x y)
  both_say (number z) x y p q =
      and-pairs (((M x && B x) && C x) && D x) (E x) (((M y && B y) && C y) && D y) (E y)
      ∙ ap (λ t. t && (E x && E y)) (and-pairs ((M x && B x) && C x) (D x) ((M y && B y) && C y) (D y)
      ∙ ap (λ t. t && (D x && D y)) (and-pairs (M x && B x) (C x) (M y && B y) (C y)
      ∙ ap (λ t. t && (C x && C y)) (and-pairs (M x) (B x) (M y) (B y))))
      ∙ turn (M x && M y) (B x && B y) (C x && C y) (D x && D y) (E x && E y)
      ∙ (λ i. sym (multiples_say z x.multiple_of y.multiple_of p q) i
      && ((sym (upper_says z (either least_int x.maximum y.maximum) (either least_int x.exclusive_maximum y.exclusive_maximum) ∙ (λ j. either_says (λ b. int_le z b) least_int (least_le z) x.maximum y.maximum j && either_says (λ b. int_lt z b) least_int (least_lt z) x.exclusive_maximum y.exclusive_maximum j)) i)
      && (sym (lower_says z (either greatest_int x.minimum y.minimum) (either greatest_int x.exclusive_minimum y.exclusive_minimum) ∙ (λ j. either_says (λ b. int_le b z) greatest_int (greatest_le z) x.minimum y.minimum j && either_says (λ b. int_lt b z) greatest_int (greatest_lt z) x.exclusive_minimum y.exclusive_minimum j)) i)))
    where
      M : Numbers → Bool
      M x = if_given (multiple z) x.multiple_of

      B : Numbers → Bool
      B x = if_given (λ b. int_le z b) x.maximum

      C : Numbers → Bool
      C x = if_given (λ b. int_lt z b) x.exclusive_maximum

      D : Numbers → Bool
      D x = if_given (λ b. int_le b z) x.minimum

      E : Numbers → Bool
      E x = if_given (λ b. int_lt b z) x.exclusive_minimum

      turn : (a b c d e : Bool) → ((((a && b) && c) && d) && e) ≡ (a && ((b && c) && (d && e)))
      turn false b c d e = refl
      turn true false c d e = refl
      turn true true false d e = refl
      turn true true true d e = refl
  both_say _ x y p q = refl

  narrow_multiple : (v : Value) (m : Option ℕ) (l u : Bound) → says v m l u ≡ true → says v (small_multiple m) l u ≡ true
  narrow_multiple (number z) m l u h = and-in (if_given (multiple z) (small_multiple m)) _ (small m (and-1 (if_given (multiple z) m) _ h)) (and-2 (if_given (multiple z) m) _ h)
    where
      small : (m : Option ℕ) → if_given (multiple z) m ≡ true → if_given (multiple z) (small_multiple m) ≡ true
      small None h = refl
      small (Some m) h = go (nat_le m greatest_u64)
        where
          go : (t : Bool) → if_given (multiple z) (if t then Some m else None) ≡ true
          go true = h
          go false = refl
  narrow_multiple _ m l u h = refl

  small_same : (m : Option ℕ) → is_wide m ≡ false → small_multiple m ≡ m
  small_same None h = refl
  small_same (Some m) h = go (nat_le m greatest_u64) h
    where
      go : (t : Bool) → not t ≡ false → (if t then Some m else None) ≡ Some m
      go true h = refl
      go false h = no_no (sym h)

  pub numbers_meet : NumbersMeet
  numbers_meet v c whole known x y p q = go (same_numbers x y) refl
    where
      twice : (a b : Bool) → a ≡ b → a ≡ (a && b)
      twice true b h = h
      twice false b h = refl

      not_wide : (b : Bool) → has_way widened (note_if b (more_than of_integer ∷ [])) ≡ false → b ≡ false
      not_wide true h = h
      not_wide false h = refl

      go : (t : Bool) → same_numbers x y ≡ t → Meets (Given ProperNumbers) (c && (numbers_say v x && numbers_say v y)) (λ o. c && if_given (numbers_say v) o)
          (if t then answer [] (Some x) else noted (note_if (is_wide (either lcm x.multiple_of y.multiple_of)) (more_than of_integer ∷ [])) (bounded whole (small_multiple (either lcm x.multiple_of y.multiple_of)) (Low x y) (High x y)))
      go true h = meets-exactly (Given ProperNumbers) (c && (numbers_say v x && numbers_say v y)) (λ o. c && if_given (numbers_say v) o) [] (Some x) p (ap (λ b. c && b) (twice _ _ (ap (numbers_say v) (numbers_sound x y h))))
      go false h = meets-weigh (Given ProperNumbers) (c && (numbers_say v x && numbers_say v y)) (c && says v (small_multiple (either lcm x.multiple_of y.multiple_of)) (Low x y) (High x y)) (λ o. c && if_given (numbers_say v) o)
          (note_if (is_wide (either lcm x.multiple_of y.multiple_of)) (more_than of_integer ∷ [])) (bounded whole (small_multiple (either lcm x.multiple_of y.multiple_of)) (Low x y) (High x y))
          (bounded_meets v c whole known (small_multiple (either lcm x.multiple_of y.multiple_of)) (Low x y) (High x y) (positive_either x.multiple_of y.multiple_of p q))
          (λ n t. and-in c _ (and-1 c _ t) (narrow_multiple v (either lcm x.multiple_of y.multiple_of) (Low x y) (High x y) (sym (both_say v x y p q) ∙ and-2 c _ t)))
          (λ n t. and-in c _ (and-1 c _ t) (both_say v x y p q ∙ (sym (ap (λ m. says v m (Low x y) (High x y)) (small_same (either lcm x.multiple_of y.multiple_of) (not_wide (is_wide (either lcm x.multiple_of y.multiple_of)) n))) ∙ and-2 c _ t)))
