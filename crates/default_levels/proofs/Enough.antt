-- With each level one stated default more comes to an end, or none does from there on: so as many levels as there are defaults are enough.
use Rattle.std.proofs.Common.{◌≡◌, ◌⊎◌, ◌≤◌, ◌<◌, ℕ, zero, suc, ◌+◌, ◌-◌, List, ◌++◌, length, refl, sym, ap, ◌∙◌, subst, inl, inr, arith}
use Rattle.json_value.specs.Value.{Value}
use Rattle.schema_defs.specs.Texts.{Relations}
use Rattle.entry_defs.specs.Entry.{Entry}
use Rattle.entry_defs.specs.Table.{Table}
use Rattle.default_defs.specs.Found.{Found, refused, ended, endless, both, or_next, given}
use Rattle.default_defs.specs.Supplied.{stated_in, stated_in_targets, value_read, read_inside, supplied}
use Rattle.default_levels.proofs.Stays.{StaysAs, stays}
use Rattle.default_levels.specs.Laws.{MoreLevelsStay, EndlessStays, SuppliedIsRead}
use Rattle.default_levels.proofs.Pairs.{Stated, pairs, in_targets, as_many_in_all, Each, front, behind, each_as, each_by, each_swapped, Inner, inner_all}
use Rattle.default_levels.proofs.Related.{IsKept, of_value}
use Rattle.default_levels.proofs.Endless.{endless_in, at_most, same_where_as_many}

within_or_past : (m n : ℕ) → (m ≤ n) ⊎ (n < m)
within_or_past zero n = inl (omega arith)
within_or_past (suc m) zero = inr (omega arith)
within_or_past (suc m) (suc n) = by (within_or_past m n)
  where
    by : (m ≤ n) ⊎ (n < m) → (suc m ≤ suc n) ⊎ (suc n < suc m)
    by (inl h) = inl (omega (arith, h))
    by (inr h) = inr (omega (arith, h))

-- ---- what is read goes by what the stated defaults come to, and by nothing else

equal : IsKept (λ a b. a ≡ b)
equal = record { of_one = λ x. refl; of_both = λ x y a b h k. λ i. both (h i) (k i); of_next = λ x y a b h k. λ i. or_next (h i) (k i); of_given = λ x a h. ap given h }

module _ (x y : Entry → Value → Found) where
  abbrev Same : Entry → Value → Type 0
  Same e v = x e v ≡ y e v

  same_value : (t : Table) → Each Same (in_targets t.targets) → (r : Relations) (v : Value) (e : Entry) → Each Same (pairs e) → value_read t r x v e ≡ value_read t r y v e
  same_value = of_value (λ a b. a ≡ b) equal x y

-- ---- levels

module _ (t : Table) (r : Relations) (e : Entry) where
  -- those that may be read
  abbrev all : List Stated
  all = in_targets t.targets ++ pairs e

  abbrev level : ℕ → Entry → Value → Found
  level k = read_inside t r k

  abbrev Steady : ℕ → Type 0
  Steady k = Each (Same (level k) (level (suc k))) all

  -- what is read of a value of an entry whose stated defaults are among them
  same_read : (k : ℕ) → Steady k → (c : Entry) → Each (Same (level k) (level (suc k))) (pairs c) → (u : Value) → level (suc k) c u ≡ level (suc (suc k)) c u
  same_read k s c h u = same_value (level k) (level (suc k)) t (front (Same (level k) (level (suc k))) (in_targets t.targets) (pairs e) s) r u c h

  steady_on : (k : ℕ) → Steady k → Steady (suc k)
  steady_on k s =
      each_as (Inner (Same (level k) (level (suc k)))) (Same (level (suc k)) (level (suc (suc k)))) (λ c u h. same_read k s c h u) all
      (inner_all (Same (level k) (level (suc k))) t.targets e s)

  -- they are steady, or as many have ended as there are levels
  progress : (k : ℕ) → Steady k ⊎ (endless_in (level k) all + k ≤ length all)
  progress zero = inr (omega (arith, at_most (level zero) all))
  progress (suc k) = by (progress k)
    where
      next : endless_in (level k) all + k ≤ length all → (endless_in (level k) all ≤ endless_in (level (suc k)) all) ⊎ (endless_in (level (suc k)) all < endless_in (level k) all)
          → Steady (suc k) ⊎ (endless_in (level (suc k)) all + suc k ≤ length all)
      next l (inl h) = inl (steady_on k (same_where_as_many (level k) (level (suc k)) (stays t r k (suc k) (omega arith)) all h))
      next l (inr h) = inr (omega (arith, l, h))

      by : Steady k ⊎ (endless_in (level k) all + k ≤ length all) → Steady (suc k) ⊎ (endless_in (level (suc k)) all + suc k ≤ length all)
      by (inl s) = inl (steady_on k s)
      by (inr l) = next l (within_or_past (endless_in (level k) all) (endless_in (level (suc k)) all))

  steady : (k : ℕ) → length all ≤ k → Steady k
  steady k l = by (progress k)
    where
      by : Steady k ⊎ (endless_in (level k) all + k ≤ length all) → Steady k
      by (inl s) = s
      by (inr h) = same_where_as_many (level k) (level (suc k)) (stays t r k (suc k) (omega arith)) all (omega (arith, l, h))

  one_more : (k : ℕ) → length all ≤ k → (v : Value) → level (suc k) e v ≡ level (suc (suc k)) e v
  one_more k l v =
      let s = steady k l in
      same_read k s e (behind (Same (level k) (level (suc k))) (in_targets t.targets) (pairs e) s) v

  -- from there on each of them stays
  stays_on : (j k : ℕ) → length all ≤ k → Each (Same (level k) (level (j + k))) all
  stays_on zero k l =
      let none : k ≡ 0 + k = omega arith in
      each_as (Same (level k) (level (suc k))) (Same (level k) (level (0 + k))) (λ c u h. ap (λ z. level z c u) none) all (steady k l)
  stays_on (suc j) k l =
      let next : suc (j + k) ≡ suc j + k = omega arith in
      each_by (Same (level k) (level (j + k))) (Same (level (j + k)) (level (suc (j + k)))) (Same (level k) (level (suc j + k))) (λ c u a b. a ∙ b ∙ ap (λ z. level z c u) next) all
      (stays_on j k l) (steady (j + k) (omega (arith, l)))

  so_many_more : (j k : ℕ) → length all ≤ k → (v : Value) → level (suc k) e v ≡ level (suc (j + k)) e v
  so_many_more zero k l v = let none : k ≡ 0 + k = omega arith in ap (λ z. level (suc z) e v) none
  so_many_more (suc j) k l v =
      let next : suc (j + k) ≡ suc j + k = omega arith in
      so_many_more j k l v ∙ one_more (j + k) (omega (arith, l)) v ∙ ap (λ z. level (suc z) e v) next

pub more_levels_stay : MoreLevelsStay
more_levels_stay t r e v k h =
    let n = stated_in_targets t.targets + stated_in e in
    let few : length (in_targets t.targets ++ pairs e) ≤ n = omega (arith, as_many_in_all t.targets e) in
    let more : suc ((k - suc n) + n) ≡ k = omega (arith, h) in
    sym (so_many_more t r e (k - suc n) n few v ∙ ap (λ z. read_inside t r z e v) more)

module _ (t : Table) (r : Relations) (k : ℕ) where
  -- what stays from so many levels on
  abbrev Stays : Entry → Value → Type 0
  Stays c u = (j : ℕ) → read_inside t r k c u ≡ read_inside t r (j + k) c u

  settled : (c : Entry) (u : Value) → Stays c u → read_inside t r k c u ≡ supplied t r c u
  settled c u h = by (within_or_past (suc (stated_in_targets t.targets + stated_in c)) k)
    where
      by : (suc (stated_in_targets t.targets + stated_in c) ≤ k) ⊎ (k < suc (stated_in_targets t.targets + stated_in c)) → read_inside t r k c u ≡ supplied t r c u
      by (inl l) = more_levels_stay t r c u k (omega (arith, l))
      by (inr l) =
          let m = suc (stated_in_targets t.targets + stated_in c) in
          let up : (m - k) + k ≡ m = omega (arith, l) in
          h (m - k) ∙ ap (λ z. read_inside t r z c u) up

pub supplied_is_read : SuppliedIsRead
supplied_is_read t r e v =
    let k = stated_in_targets t.targets + stated_in e in
    let few : length (in_targets t.targets ++ pairs e) ≤ k = omega (arith, as_many_in_all t.targets e) in
    let each = each_as (Stays t r k) (Same (read_inside t r k) (supplied t r)) (settled t r k) (in_targets t.targets ++ pairs e)
    (each_swapped (λ j. Same (read_inside t r k) (read_inside t r (j + k))) (in_targets t.targets ++ pairs e) (λ j. stays_on t r e j k few)) in
    same_value (read_inside t r k) (supplied t r) t (front (Same (read_inside t r k) (supplied t r)) (in_targets t.targets) (pairs e) each) r v e
    (behind (Same (read_inside t r k) (supplied t r)) (in_targets t.targets) (pairs e) each)

pub endless_stays : EndlessStays
endless_stays t r e v h k = by (within_or_past k (suc (stated_in_targets t.targets + stated_in e)))
  where
    lesser : (a : Found) → StaysAs a endless → a ≡ endless
    lesser refused s = sym s
    lesser ended s = sym s
    lesser endless s = refl

    by : (k ≤ suc (stated_in_targets t.targets + stated_in e)) ⊎ (suc (stated_in_targets t.targets + stated_in e) < k) → read_inside t r k e v ≡ endless
    by (inl l) = lesser (read_inside t r k e v) (subst (λ z. StaysAs (read_inside t r k e v) z) h (stays t r k (suc (stated_in_targets t.targets + stated_in e)) l e v))
    by (inr l) = more_levels_stay t r e v k (omega (arith, l)) ∙ h
