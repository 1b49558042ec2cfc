-- One name after another is tried.
use Rattle.std.proofs.Common.{◌≡◌, ◌<◌, ◌-◌, ◌+◌, ◌^◌, ◌++◌, ℕ, suc, List, Bool, true, false, cond, decimal, sym, ap, ◌∙◌, arith}
use Rattle.schema_defs.proofs.Places.{places_differ}
use Rattle.naming_defs.specs.Names.{numbered}
use Rattle.free_names.specs.Free.{first_untaken}

one_more : (c i : ℕ) → i < c → c - i ≡ suc (c - (i + 1))
one_more c i l = omega arith

module _ (p : List ℕ) (t : List ℕ → Bool) where
  next : (c i : ℕ) → i < c → first_untaken p t (c - i) i ≡ cond (t (numbered p i)) (first_untaken p t (c - (i + 1)) (suc i)) (numbered p i)
  next c i l = ap (λ k. first_untaken p t k i) (one_more c i l)

  pub passed : (c i : ℕ) → i < c → t (numbered p i) ≡ true → first_untaken p t (c - i) i ≡ first_untaken p t (c - (i + 1)) (i + 1)
  passed c i l h =
      let e : suc i ≡ i + 1 = omega arith in
      next c i l ∙ ap (λ b. cond b (first_untaken p t (c - (i + 1)) (suc i)) (numbered p i)) h ∙ ap (first_untaken p t (c - (i + 1))) e

  pub found : (c i : ℕ) → i < c → t (numbered p i) ≡ false → first_untaken p t (c - i) i ≡ numbered p i
  found c i l h = next c i l ∙ ap (λ b. cond b (first_untaken p t (c - (i + 1)) (suc i)) (numbered p i)) h

  pub spent : (c : ℕ) → first_untaken p t (c - c) c ≡ numbered p c
  spent c = let e : c - c ≡ 0 = omega arith in ap (λ k. first_untaken p t k c) e

pub written : (p : List ℕ) (n : ℕ) → n < 2 ^ 64 → p ++ decimal n ≡ numbered p n
written p n l = ap (λ z. p ++ z) (sym (places_differ.1 n l))
