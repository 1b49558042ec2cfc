-- Tests that agree, and choices that may end in nothing.
use Rattle.std.proofs.Common.{◌≡◌, ◌∙◌, sym, ap, ℕ, Bool, true, false, cond, ◌==◌, ◌&&◌, ◌||◌, Option, None, is_some, refl, true≢false}
use Rattle.std.proofs.lemmas.Bool.{eq-eqb, or_left, or_right}

pub same_bools : (a b : Bool) → (a ≡ true → b ≡ true) → (b ≡ true → a ≡ true) → a ≡ b
same_bools true b f g = sym (f refl)
same_bools false true f g = absurd (true≢false (sym (g refl)))
same_bools false false f g = refl

pub some_cond : {A : Type 0} (t : Bool) (x y : Option A) → is_some (cond t x y) ≡ cond t (is_some x) (is_some y)
some_cond true x y = refl
some_cond false x y = refl

-- what is there under a test, and nothing else
pub some_where : {A : Type 0} (t : Bool) (x : Option A) → is_some (cond t x None) ≡ (t && is_some x)
some_where true x = refl
some_where false x = refl

pub and_true : (t : Bool) → (t && true) ≡ t
and_true true = refl
and_true false = refl

none_chosen : (s t u v : Bool) → cond s false (cond t false (cond u false (cond v false false))) ≡ false
none_chosen true t u v = refl
none_chosen false true u v = refl
none_chosen false false true v = refl
none_chosen false false false true = refl
none_chosen false false false false = refl

-- four tests that each stand at a number of their own, one chosen by the number
pub chosen : (n : ℕ) (p h b u : Bool) → (p ≡ true → n ≡ 32) → (h ≡ true → n ≡ 36) → (b ≡ true → n ≡ 38) → (u ≡ true → n ≡ 45)
    → cond (n == 32) p (cond (n == 36) h (cond (n == 38) b (cond (n == 45) u false))) ≡ (h || p || b || u)
chosen n true h b u at_p at_h at_b at_u =
    ap (λ t. cond t true (cond (n == 36) h (cond (n == 38) b (cond (n == 45) u false)))) (eq-eqb n 32 (at_p refl))
    ∙ sym (or_left (h || true || b) u (or_left (h || true) b (or_right h true refl)))
chosen n false true b u at_p at_h at_b at_u =
    ap (λ m. cond (m == 32) false (cond (m == 36) true (cond (m == 38) b (cond (m == 45) u false)))) (at_h refl)
chosen n false false true u at_p at_h at_b at_u =
    ap (λ m. cond (m == 32) false (cond (m == 36) false (cond (m == 38) true (cond (m == 45) u false)))) (at_b refl)
chosen n false false false true at_p at_h at_b at_u =
    ap (λ m. cond (m == 32) false (cond (m == 36) false (cond (m == 38) false (cond (m == 45) true false)))) (at_u refl)
chosen n false false false false at_p at_h at_b at_u = none_chosen (n == 32) (n == 36) (n == 38) (n == 45)

pub or_turned : (a b c : Bool) → (a || b || c) ≡ (a || c || b)
or_turned true b c = refl
or_turned false true true = refl
or_turned false true false = refl
or_turned false false true = refl
or_turned false false false = refl
