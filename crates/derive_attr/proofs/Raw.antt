-- Names without `r#`.
use Rattle.std.proofs.Common.{◌≡◌, ℕ, List, [], ◌∷◌, ◌&&◌, Bool, true, false, cond, codes, nat_eq, refl, ap, sym, ◌∙◌, arith}
use Rattle.std.proofs.lemmas.Bool.Decides.{nat_tests}
use Rattle.std.specs.Str.Pattern.{FindsTextPrefix, LacksTextAt, StripsPrefix}
use Rattle.attr_defs.specs.Container.{unraw}

pub raw_stripped : (s x : List ℕ) → StripsPrefix (FindsTextPrefix (codes "r#")) s x → x ≡ unraw s
raw_stripped s x h = h.2 ∙ sym (ap unraw h.1.1)

is_number : (c n : ℕ) → nat_eq c n ≡ true → c ≡ n
is_number c n h = grind (arith, nat_tests)

raw_by : (c d : ℕ) (n : List ℕ) → LacksTextAt (codes "r#") (c ∷ d ∷ n) 0 → (p q : Bool) → nat_eq c 114 ≡ p → nat_eq d 35 ≡ q → c ∷ d ∷ n ≡ cond (p && q) n (c ∷ d ∷ n)
raw_by c d n h true true e f = absurd (h n (ap (λ x. x ∷ d ∷ n) (is_number c 114 e) ∙ ap (λ x. 114 ∷ x ∷ n) (is_number d 35 f)))
raw_by c d n h true false e f = refl
raw_by c d n h false q e f = refl

pub raw_stays : (s : List ℕ) → LacksTextAt (codes "r#") s 0 → s ≡ unraw s
raw_stays [] h = refl
raw_stays (c ∷ []) h = refl
raw_stays (c ∷ d ∷ n) h = raw_by c d n h (nat_eq c 114) (nat_eq d 35) refl refl
