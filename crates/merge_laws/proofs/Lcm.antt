-- Multiples of both are the multiples of the least common multiple.
use Rattle.std.proofs.Common.{◌≡◌, ℕ, zero, suc, ◌+◌, ◌*◌, ◌/◌, ◌%◌, ◌≤◌, ◌<◌, ℤ, pos, negsuc, neg_ℤ, Bool, true, false, ◌&&◌, refl, ap, sym, ◌∙◌, subst, arith}
use Rattle.std.specs.Prelude.{◌==◌}
use Prim.Native.Nat.{◌∣◌}
use Rattle.std.specs.Int.{IsGcd}
use Rattle.std.proofs.lemmas.Nat.Gcd.{IsGcd-from_zero, IsGcd-from_mod, dvd_trans, dvd_of_mod-eq-zero, mod-eq-zero_of_dvd}
use Rattle.std.proofs.Math.Nat.{mod-add-div, dvd-add_iff_left, dvd-mul_left_of_dvd, dvd-mul_left, dvd-mul_right, mul-dvd-mul_left, mul-dvd-mul_right, dvd_of_mul-dvd-mul_left}
use Rattle.std.proofs.lemmas.Bool.Decides.{Decides-eqb, Decides-int_eq}
use Rattle.merge_defs.specs.Leaves.{gcd_within, lcm}
use Rattle.merge_laws.proofs.Steps.{yes_no, and-1, and-2, and-in}
use Rattle.merge_laws.proofs.Leaves.{same_bools}
use Rattle.merge_laws.proofs.Numbers.{multiple, LcmFacts}

-- ---- products

spread : (p q a x : ℕ) → p + q ≡ a → p * x + q * x ≡ a * x
spread p q a x e = let h = ap (λ t. t * x) e in omega (arith, h)

turn : (k b x : ℕ) → k * (b * x) ≡ (b * k) * x
turn k b x = grind arith

-- ---- Euclid's steps

below_rem : (a b : ℕ) → (b == 0) ≡ false → a % b < b
below_rem a b e = go b e
  where
    go : (b : ℕ) → (b == 0) ≡ false → a % b < b
    go zero e = absurd (yes_no true e refl)
    go (suc b) e = omega arith

linear : (n a b : ℕ) → b < n → (d x : ℕ) → d ∣ a * x → d ∣ b * x → d ∣ gcd_within n a b * x
linear zero a b h d x p q = absurd (omega (arith, h))
linear (suc n) a b h d x p q = go (b == 0) refl (linear n b (a % b))
  where
    go : (t : Bool) → (b == 0) ≡ t → (a % b < n → (d x : ℕ) → d ∣ b * x → d ∣ (a % b) * x → d ∣ gcd_within n b (a % b) * x) → d ∣ (elim t [ true ↦ a | false ↦ gcd_within n b (a % b) ]) * x
    go true e k = p
    go false e k =
        let l = below_rem a b e in
        let s = spread (a % b) (b * (a / b)) a x (mod-add-div a b) in
        let m = subst (λ t. d ∣ t) (turn (a / b) b x) (dvd-mul_left_of_dvd d q (a / b)) in
        k (omega (arith, l, h)) d x q ((dvd-add_iff_left d m).1 (subst (λ t. d ∣ t) (sym s) p))

gcd_is : (n a b : ℕ) → b < n → IsGcd a b (gcd_within n a b)
gcd_is zero a b h = absurd (omega (arith, h))
gcd_is (suc n) a b h = go (b == 0) refl (gcd_is n b (a % b))
  where
    go : (t : Bool) → (b == 0) ≡ t → (a % b < n → IsGcd b (a % b) (gcd_within n b (a % b))) → IsGcd a b (elim t [ true ↦ a | false ↦ gcd_within n b (a % b) ])
    go true e k = IsGcd-from_zero a b ((Decides-eqb b 0).0 e)
    go false e k = let l = below_rem a b e in IsGcd-from_mod a b (gcd_within n b (a % b)) (k (omega (arith, l, h)))

whole_part : (g a : ℕ) → g ∣ a → g * (a / g) ≡ a
whole_part g a h = let e = mod-eq-zero_of_dvd g h in let s = mod-add-div a g in omega (arith, e, s)

positive_product : (a b : ℕ) → 1 ≤ a → 1 ≤ b → 1 ≤ a * b
positive_product a b p q = grind arith

module _ (a b : ℕ) (pa : 1 ≤ a) (pb : 1 ≤ b) where
  abbrev g : ℕ
  g = gcd_within (suc b) a b

  is : IsGcd a b g
  is = gcd_is (suc b) a b (omega arith)

  positive : 0 < g
  positive = go g is.0
    where
      go : (g : ℕ) → g ∣ a → 0 < g
      go zero h = let e = whole_part 0 a h in absurd (omega (arith, e, pa))
      go (suc g) h = omega arith

  product : g * lcm a b ≡ a * b
  product = regroup g (a / g) b ∙ ap (λ t. t * b) (whole_part g a is.0)
    where
      regroup : (g k b : ℕ) → g * (k * b) ≡ (g * k) * b
      regroup g k b = grind arith

  a_divides : a ∣ lcm a b
  a_divides = subst (λ t. a ∣ t) (sym (ap (λ t. (a / g) * t) (sym (whole_part g b is.1)) ∙ regroup (a / g) g (b / g) ∙ ap (λ t. t * (b / g)) (whole_part g a is.0))) (dvd-mul_right a (b / g))
    where
      regroup : (k g m : ℕ) → k * (g * m) ≡ (g * k) * m
      regroup k g m = grind arith

  b_divides : b ∣ lcm a b
  b_divides = dvd-mul_left b (a / g)

  both_divide : (n : ℕ) → a ∣ n → b ∣ n → lcm a b ∣ n
  both_divide n p q = dvd_of_mul-dvd-mul_left {k = g} (lcm a b) positive
      (subst (λ t. t ∣ g * n) (sym product) (linear (suc b) a b (omega arith) (a * b) n (mul-dvd-mul_left b a q) (subst (λ t. a * b ∣ t) (swap n b) (mul-dvd-mul_right a p b))))
    where
      swap : (n b : ℕ) → n * b ≡ b * n
      swap n b = omega arith

  pub lcm_positive : 1 ≤ lcm a b
  lcm_positive = go (lcm a b) product
    where
      go : (m : ℕ) → g * m ≡ a * b → 1 ≤ m
      go zero e = let p = positive_product a b pa pb in absurd (omega (arith, e, p))
      go (suc m) e = omega arith

-- ---- multiples of whole numbers

abbrev size : ℤ → ℕ
size (pos n) = n
size (negsuc n) = suc n

none_neg : (x : ℕ) → neg_ℤ (pos x) ≡ pos 0 → x ≡ 0
none_neg zero h = refl
none_neg (suc x) h = absurd (apart h)
  where
    apart : negsuc x ≡ pos 0 → ⊥
    apart h = cc

divides : (z : ℤ) (m : ℕ) → multiple z m ≡ true → m ∣ size z
divides (pos n) m h = dvd_of_mod-eq-zero m (injective (n % m) ((Decides-int_eq (pos (n % m)) (pos 0)).0 h))
  where
    injective : (x : ℕ) → pos x ≡ pos 0 → x ≡ 0
    injective x h = cc
divides (negsuc n) m h = dvd_of_mod-eq-zero m (none_neg (suc n % m) ((Decides-int_eq (neg_ℤ (pos (suc n % m))) (pos 0)).0 h))

divided : (z : ℤ) (m : ℕ) → m ∣ size z → multiple z m ≡ true
divided (pos n) m h = (Decides-int_eq (pos (n % m)) (pos 0)).1 (ap pos (mod-eq-zero_of_dvd m h))
divided (negsuc n) m h = (Decides-int_eq (neg_ℤ (pos (suc n % m))) (pos 0)).1 (ap (λ x. neg_ℤ (pos x)) (mod-eq-zero_of_dvd m h))

pub lcm_facts : LcmFacts
lcm_facts = record {
  multiples = λ z a b p q. same_bools (multiple z (lcm a b)) (multiple z a && multiple z b)
      (λ h. and-in (multiple z a) (multiple z b) (divided z a (dvd_trans a (a_divides a b p q) (divides z (lcm a b) h))) (divided z b (dvd_trans b (b_divides a b p q) (divides z (lcm a b) h))))
      (λ h. divided z (lcm a b) (both_divide a b p q (size z) (divides z a (and-1 (multiple z a) _ h)) (divides z b (and-2 (multiple z a) _ h))));
  positive = lcm_positive;
}
