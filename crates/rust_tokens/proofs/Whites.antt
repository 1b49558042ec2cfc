-- No identifier and no punctuation begins with white space.
use Rattle.std.proofs.Common.{◌≡◌, ◌<◌, ◌≤◌, ◌+◌, ◌-◌, ℕ, zero, suc, Bool, true, false, not, ◌&&◌, ◌||◌, eqb, refl, ap, sym, ◌∙◌, inl, inr, arith}
use Rattle.std.specs.Prelude.{nat_lt}
use Rattle.std.proofs.lemmas.Bool.{cases_lt, and_parts, ltb-true, eqb-true}
use Rattle.std.specs.Char.{is_whitespace}
use Rattle.unicode_ident.specs.Ident.{is_xid_start, is_xid_continue}
use Rattle.unicode_ident.proofs.Computing.{unicode_ident}
use Rattle.rust_tokens.specs.Front.{begins_name, is_punctuation}

pub space_no_start : is_xid_start 32 ≡ false
unfolding unicode_ident
space_no_start = refl

pub space_no_continue : is_xid_continue 32 ≡ false
unfolding unicode_ident
space_no_continue = refl

pub hash_no_continue : is_xid_continue 35 ≡ false
unfolding unicode_ident
hash_no_continue = refl

pub or_case : (a b : Bool) (P : Type 0) → (a ≡ true → P) → (b ≡ true → P) → (a || b) ≡ true → P
or_case true b P h k e = h refl
or_case false b P h k e = k e

at_value : (c k : ℕ) → is_whitespace k ≡ false → eqb c k ≡ true → is_whitespace c ≡ false
at_value c k h e = ap is_whitespace (eqb-true c k e) ∙ h

pub punctuation_no_white : (c : ℕ) → is_punctuation c ≡ true → is_whitespace c ≡ false
punctuation_no_white c = (or_case _ (eqb c 39) (is_whitespace c ≡ false) (or_case _ (eqb c 126) (is_whitespace c ≡ false) (or_case _ (eqb c 63) (is_whitespace c ≡ false) (or_case _ (eqb c 36) (is_whitespace c ≡ false) (or_case _ (eqb c 35) (is_whitespace c ≡ false) (or_case _ (eqb c 58) (is_whitespace c ≡ false) (or_case _ (eqb c 59) (is_whitespace c ≡ false) (or_case _ (eqb c 44) (is_whitespace c ≡ false) (or_case _ (eqb c 46) (is_whitespace c ≡ false) (or_case _ (eqb c 64) (is_whitespace c ≡ false) (or_case _ (eqb c 62) (is_whitespace c ≡ false) (or_case _ (eqb c 60) (is_whitespace c ≡ false) (or_case _ (eqb c 61) (is_whitespace c ≡ false) (or_case _ (eqb c 124) (is_whitespace c ≡ false) (or_case _ (eqb c 38) (is_whitespace c ≡ false) (or_case _ (eqb c 33) (is_whitespace c ≡ false) (or_case _ (eqb c 94) (is_whitespace c ≡ false) (or_case _ (eqb c 37) (is_whitespace c ≡ false) (or_case _ (eqb c 47) (is_whitespace c ≡ false) (or_case _ (eqb c 42) (is_whitespace c ≡ false) (or_case _ (eqb c 45) (is_whitespace c ≡ false) (at_value c 43 refl) (at_value c 45 refl)) (at_value c 42 refl)) (at_value c 47 refl)) (at_value c 37 refl)) (at_value c 94 refl)) (at_value c 33 refl)) (at_value c 38 refl)) (at_value c 124 refl)) (at_value c 61 refl)) (at_value c 60 refl)) (at_value c 62 refl)) (at_value c 64 refl)) (at_value c 46 refl)) (at_value c 44 refl)) (at_value c 59 refl)) (at_value c 58 refl)) (at_value c 35 refl)) (at_value c 36 refl)) (at_value c 63 refl)) (at_value c 126 refl)) (at_value c 39 refl))

at_start : (c k : ℕ) → is_xid_start k ≡ false → eqb c k ≡ true → is_xid_start c ≡ false
at_start c k h e = ap is_xid_start (eqb-true c k e) ∙ h

below : (ℕ → Bool) → ℕ → Bool
below p zero = true
below p (suc n) = p n && below p n

below_at : (p : ℕ → Bool) (n k : ℕ) → below p n ≡ true → k < n → p k ≡ true
unfolding below
below_at p zero k h l = absurd (omega arith)
below_at p (suc n) k h l =
    let both = and_parts (p n) (below p n) h in
    elim (cases_lt k n) [
      | inl low ↦ below_at p n k both.1 low
      | inr high ↦ let e : k ≡ n = omega arith in ap p e ∙ both.0
    ]

no_start : (b : Bool) → not b ≡ true → b ≡ false
no_start true h = sym h
no_start false h = refl

in_range : (c lo n : ℕ) → below (λ k. not (is_xid_start (lo + k))) n ≡ true → (lo ≤ c) × (c < lo + n) → is_xid_start c ≡ false
in_range c lo n h r =
    let k : c - lo < n = omega arith in
    let e : lo + (c - lo) ≡ c = omega arith in
    sym (ap is_xid_start e) ∙ no_start (is_xid_start (lo + (c - lo))) (below_at (λ k. not (is_xid_start (lo + k))) n (c - lo) h k)

controls_no_start : below (λ k. not (is_xid_start (9 + k))) 5 ≡ true
unfolding unicode_ident below
controls_no_start = refl

spaces_no_start : below (λ k. not (is_xid_start (8192 + k))) 11 ≡ true
unfolding unicode_ident below
spaces_no_start = refl

range_of : (a b c : ℕ) → (nat_lt a c && nat_lt c b) ≡ true → (a < c) × (c < b)
range_of a b c h = let p = and_parts (nat_lt a c) (nat_lt c b) h in (ltb-true a c p.0, ltb-true c b p.1)

low_white : (c : ℕ) → (nat_lt 8 c && nat_lt c 14) ≡ true → is_xid_start c ≡ false
low_white c h = let r = range_of 8 14 c h in in_range c 9 5 controls_no_start (omega arith, omega arith)

high_white : (c : ℕ) → (nat_lt 8191 c && nat_lt c 8203) ≡ true → is_xid_start c ≡ false
high_white c h = let r = range_of 8191 8203 c h in in_range c 8192 11 spaces_no_start (omega arith, omega arith)

white_no_start : (c : ℕ) → is_whitespace c ≡ true → is_xid_start c ≡ false
unfolding unicode_ident
white_no_start c = (or_case _ (eqb c 12288) (is_xid_start c ≡ false) (or_case _ (eqb c 8287) (is_xid_start c ≡ false) (or_case _ (eqb c 8239) (is_xid_start c ≡ false) (or_case _ (eqb c 8233) (is_xid_start c ≡ false) (or_case _ (eqb c 8232) (is_xid_start c ≡ false) (or_case _ (nat_lt 8191 c && nat_lt c 8203) (is_xid_start c ≡ false) (or_case _ (eqb c 5760) (is_xid_start c ≡ false) (or_case _ (eqb c 160) (is_xid_start c ≡ false) (or_case _ (eqb c 133) (is_xid_start c ≡ false) (or_case _ (eqb c 32) (is_xid_start c ≡ false) (low_white c) (at_start c 32 refl)) (at_start c 133 refl)) (at_start c 160 refl)) (at_start c 5760 refl)) (high_white c)) (at_start c 8232 refl)) (at_start c 8233 refl)) (at_start c 8239 refl)) (at_start c 8287 refl)) (at_start c 12288 refl))

white_or_not : (c : ℕ) (b : Bool) → is_whitespace c ≡ b → is_xid_start c ≡ true → is_whitespace c ≡ false
white_or_not c true e h = absurd (let k = white_no_start c e in cc)
white_or_not c false e h = e

-- what an identifier begins with is no white space
pub begins_no_white : (c : ℕ) → begins_name c ≡ true → is_whitespace c ≡ false
begins_no_white c = or_case (eqb c 95) (is_xid_start c) (is_whitespace c ≡ false) (at_value c 95 refl) (white_or_not c (is_whitespace c) refl)
