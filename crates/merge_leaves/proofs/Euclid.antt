-- Euclid's steps, and the least common multiple up to 64 bits.
use Rattle.std.proofs.Common.{◌≡◌, ℕ, zero, suc, ◌*◌, ◌/◌, ◌%◌, ◌<◌, ◌^◌, Bool, true, false, not, refl, sym, ap, ◌∙◌, subst, arith, Some, None, true≢false}
use Rattle.std.specs.Prelude.{◌==◌, Option, nat_le, if◌then◌else◌}
use Rattle.std.specs.Option.{SomeIff, is_none}
use Rattle.std.proofs.Math.Nat.{mul-zero}
use Rattle.std.proofs.lemmas.Bool.{leb-true, leb-false, le-leb}
use Rattle.std.proofs.lemmas.Bool.Decides.{Decides-eqb}
use Rattle.merge_defs.specs.Leaves.{gcd_within, lcm, small_multiple, is_wide, greatest_u64}

below_rem : (a b : ℕ) → (b ≡ 0 → ⊥) → a % b < b
below_rem a zero h = absurd (h refl)
below_rem a (suc b) h = omega arith

not_zero : (b : ℕ) → (b ≡ 0 → ⊥) → (b == 0) ≡ false
not_zero b h = go (b == 0) refl
  where
    go : (t : Bool) → (b == 0) ≡ t → t ≡ false
    go true e = absurd (h ((Decides-eqb b 0).0 e))
    go false e = refl

-- more steps than are needed change nothing
same_steps : (n m a b : ℕ) → b < n → b < m → gcd_within n a b ≡ gcd_within m a b
same_steps zero m a b h k = absurd (omega (arith, h))
same_steps (suc n) zero a b h k = absurd (omega (arith, k))
same_steps (suc n) (suc m) a b h k = go (b == 0) refl (same_steps n m b (a % b))
  where
    go : (t : Bool) → (b == 0) ≡ t → (a % b < n → a % b < m → gcd_within n b (a % b) ≡ gcd_within m b (a % b)) → ◌≡◌ {A = ℕ} (elim t [ true ↦ a | false ↦ gcd_within n b (a % b) ]) (elim t [ true ↦ a | false ↦ gcd_within m b (a % b) ])
    go true e f = refl
    go false e f =
        let l = below_rem a b (λ z. true≢false (sym ((Decides-eqb b 0).1 z) ∙ e)) in
        f (omega (arith, l, h)) (omega (arith, l, k))

steps_on : (n a b : ℕ) → (b ≡ 0 → ⊥) → gcd_within (suc n) a b ≡ gcd_within n b (a % b)
steps_on n a b h = ap (λ t. elim t [ true ↦ a | false ↦ gcd_within n b (a % b) ]) (not_zero b h)

pub gcd_turn : (a b w : ℕ) → (b ≡ 0 → ⊥) → gcd_within (suc b) a b ≡ w → gcd_within (suc (a % b)) b (a % b) ≡ w
gcd_turn a b w h was = let l = below_rem a b h in same_steps (suc (a % b)) b b (a % b) (omega arith) l ∙ sym (steps_on b a b h) ∙ was

pub gcd_end : (a b w : ℕ) → b ≡ 0 → gcd_within (suc b) a b ≡ w → a ≡ w
gcd_end a b w h was = ap (λ c. gcd_within (suc c) a c) (sym h) ∙ was

positive : (b : ℕ) → (b ≡ 0 → ⊥) → 0 < b
positive zero h = absurd (h refl)
positive (suc b) h = omega arith

above : (n a b : ℕ) → b < n → (b ≡ 0 → ⊥) → 0 < gcd_within n a b
above zero a b h k = absurd (omega (arith, h))
above (suc n) a b h k = subst (λ g. 0 < g) (sym (steps_on n a b k)) (go n (a % b) h (below_rem a b k) (above n b (a % b)))
  where
    go : (n r : ℕ) → b < suc n → r < b → (r < n → (r ≡ 0 → ⊥) → 0 < gcd_within n b r) → 0 < gcd_within n b r
    go zero r h l f = let p = positive b k in absurd (omega (arith, h, p))
    go (suc n) zero h l f = positive b k
    go (suc n) (suc r) h l f = f (omega (arith, h, l)) (λ e. omega (arith, e))

pub gcd_above : (a b : ℕ) → (b ≡ 0 → ⊥) → 0 < gcd_within (suc b) a b
gcd_above a b h = above (suc b) a b (omega arith) h

pub lcm_zero : (a b : ℕ) → b ≡ 0 → Some 0 ≡ small_multiple (Some (lcm a b))
lcm_zero a b h = ap (λ m. small_multiple (Some m)) (sym (ap (λ c. (a / gcd_within (suc b) a b) * c) h ∙ mul-zero (a / gcd_within (suc b) a b)))

small_by : (o : Option ℕ) (m : ℕ) → SomeIff o (m < 2 ^ 64) m → o ≡ small_multiple (Some m)
small_by o m h = go (nat_le m greatest_u64) refl o h
  where
    go : (t : Bool) → nat_le m greatest_u64 ≡ t → (o : Option ℕ) → SomeIff o (m < 2 ^ 64) m → o ≡ (if t then Some m else None)
    go true e None h = let l = leb-true m greatest_u64 e in absurd (h (omega (arith, l)))
    go true e (Some x) h = ap Some h.1
    go false e None h = refl
    go false e (Some x) h = let l = leb-false m greatest_u64 e in let k = h.0 in absurd (omega (arith, l, k))

pub lcm_small : (a b g : ℕ) (o : Option ℕ) → g ≡ gcd_within (suc b) a b → SomeIff o ((a / g) * b < 2 ^ 64) ((a / g) * b) → o ≡ small_multiple (Some (lcm a b))
lcm_small a b g o e h = small_by o ((a / g) * b) h ∙ ap (λ d. small_multiple (Some ((a / d) * b))) e

pub alone_small : (a : ℕ) → a < 2 ^ 64 → Some a ≡ small_multiple (Some a)
alone_small a h = small_by (Some a) a (h, refl)

pub alone_narrow : (a : ℕ) → a < 2 ^ 64 → false ≡ is_wide (Some a)
alone_narrow a h = ap not (sym (le-leb a greatest_u64 (omega (arith, h))))

pub none_wide : (o : Option ℕ) (m : ℕ) (b : Bool) → o ≡ small_multiple (Some m) → b ≡ is_none o → b ≡ is_wide (Some m)
none_wide o m b e h = h ∙ ap is_none e ∙ go (nat_le m greatest_u64)
  where
    go : (t : Bool) → is_none (if t then Some m else None) ≡ not t
    go true = refl
    go false = refl
