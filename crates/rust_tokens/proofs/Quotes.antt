-- Where no string literal begins.
use Rattle.std.proofs.Common.{◌≡◌, ◌≤◌, ◌<◌, ◌+◌, ◌-◌, ℕ, zero, suc, Bool, true, false, List, [], ◌∷◌, drop, get_or, length, Option, Some, None, cond, ◌&&◌, inl, inr, refl, ap, sym, ◌∙◌, arith, take}
use Rattle.std.specs.Prelude.{option_map, nat_lt, ◌==◌}
use Rattle.std.specs.Char.{is_digit}
use Rattle.std.proofs.lemmas.List.{drop-drop, length-drop}
use Rattle.std.proofs.lemmas.Bool.{cases_lt, and_parts, eqb-true}
use lib.Utf8.{scalar}
use Rattle.rust_tokens.specs.Front.{hex_len, hex_value, begins_with, byte_escape, braced_escape, unicode_escape, escape, unit, body, front}
use Rattle.rust_tokens.specs.Partners.{IsBarren, IsBarrenBody}
use Rattle.rust_tokens.proofs.Places.{Follows}
use Rattle.rust_tokens.proofs.Bodies.{front_at, body_unit, rest_from}

-- In what follows the backslash of an escape, a quote stands only at its end.
abbrev QuoteLast : List ℕ → Option (ℕ × ℕ) → Type 0
QuoteLast cs r = (v n k : ℕ) (ds : List ℕ) → r ≡ Some (v, n) → k < n → drop k cs ≡ 34 ∷ ds → ds ≡ drop n cs

none_last : (cs : List ℕ) → QuoteLast cs None
none_last cs v n k ds e l h = absurd (cc)

either_last : (cs : List ℕ) (b : Bool) (x y : Option (ℕ × ℕ)) → (b ≡ true → QuoteLast cs x) → QuoteLast cs y → QuoteLast cs (cond b x y)
either_last cs true x y h k = h refl
either_last cs false x y h k = k

same_more : (p q : ℕ × ℕ) → Some p ≡ Some q → p.1 ≡ q.1
same_more p q h = let e : p ≡ q = cc in ap (λ r. r.1) e

-- an escape of one character
one_last : (c : ℕ) (cs : List ℕ) (w : ℕ) → QuoteLast (c ∷ cs) (Some (w, 1))
one_last c cs w v n zero ds e l h =
    let m : 1 ≡ n = same_more (w, 1) (v, n) e in
    let t : ds ≡ cs = cc in
    t ∙ ap (λ i. drop i (c ∷ cs)) m
one_last c cs w v n (suc k) ds e l h = let m : 1 ≡ n = same_more (w, 1) (v, n) e in absurd (omega arith)

-- a quote is no digit
no_digit : (c base : ℕ) → is_digit 34 base ≡ false → is_digit c base ≡ true → c ≡ 34 → ⊥
no_digit c base f h e = let t = sym f ∙ ap (λ x. is_digit x base) (sym e) ∙ h in cc

byte_digits : (c a b : ℕ) (ds : List ℕ) (w : ℕ) → c ≡ 120 → (is_digit a 8 && is_digit b 16) ≡ true → QuoteLast (c ∷ a ∷ b ∷ ds) (Some (w, 3))
byte_digits c a b ds w x t v n zero rest e l h = let q : c ≡ 34 = cc in absurd (omega arith)
byte_digits c a b ds w x t v n (suc zero) rest e l h = absurd (no_digit a 8 refl (and_parts (is_digit a 8) (is_digit b 16) t).0 (cc))
byte_digits c a b ds w x t v n (suc (suc zero)) rest e l h = absurd (no_digit b 16 refl (and_parts (is_digit a 8) (is_digit b 16) t).1 (cc))
byte_digits c a b ds w x t v n (suc (suc (suc k))) rest e l h = let m : 3 ≡ n = same_more (w, 3) (v, n) e in absurd (omega arith)

byte_last : (c : ℕ) (cs : List ℕ) → c ≡ 120 → QuoteLast (c ∷ cs) (byte_escape cs)
byte_last c [] x = none_last (c ∷ [])
byte_last c (a ∷ []) x = none_last (c ∷ a ∷ [])
byte_last c (a ∷ b ∷ ds) x =
    either_last (c ∷ a ∷ b ∷ ds) (is_digit a 8 && is_digit b 16) _ None (byte_digits c a b ds _ x) (none_last (c ∷ a ∷ b ∷ ds))

hex_case : (b : Bool) (c : ℕ) (cs : List ℕ) (k : ℕ) (ds : List ℕ) → is_digit c 16 ≡ b → k < cond b (hex_len cs + 1) 0 → drop k (c ∷ cs) ≡ 34 ∷ ds
    → ((j : ℕ) → j < hex_len cs → drop j cs ≡ 34 ∷ ds → ⊥) → ⊥
hex_case true c cs zero ds t l h more = no_digit c 16 refl t (cc)
hex_case true c cs (suc k) ds t l h more = more k (omega arith) h
hex_case false c cs k ds t l h more = omega arith

hex_quote : (cs : List ℕ) (ds : List ℕ) (k : ℕ) → k < hex_len cs → drop k cs ≡ 34 ∷ ds → ⊥
hex_quote [] ds k l h = omega arith
hex_quote (c ∷ cs) ds k l h = hex_case (is_digit c 16) c cs k ds refl l h (hex_quote cs ds)

no_brace : (cs ds : List ℕ) → begins_with 125 cs ≡ true → cs ≡ 34 ∷ ds → ⊥
no_brace cs ds t h = let bad : false ≡ true = sym (ap (begins_with 125) h) ∙ t in cc

braced_digits : (c e : ℕ) (es : List ℕ) (w : ℕ) → c ≡ 117 → e ≡ 123 → begins_with 125 (drop (hex_len es) es) ≡ true → QuoteLast (c ∷ e ∷ es) (Some (w, hex_len es + 3))
braced_digits c e es w x y t v n zero ds s l h = let q : c ≡ 34 = cc in absurd (omega arith)
braced_digits c e es w x y t v n (suc zero) ds s l h = let q : e ≡ 34 = cc in absurd (omega arith)
braced_digits c e es w x y t v n (suc (suc k)) ds s l h =
    let m : hex_len es + 3 ≡ n = same_more (w, hex_len es + 3) (v, n) s in
    elim (cases_lt k (hex_len es)) [
      | inl low ↦ absurd (hex_quote es ds k low h)
      | inr high ↦
          let last : k ≡ hex_len es = omega arith in
          absurd (no_brace (drop (hex_len es) es) ds t (ap (λ i. drop i es) (sym last) ∙ h))
    ]

braced_last : (c e : ℕ) (es : List ℕ) → c ≡ 117 → e ≡ 123 → QuoteLast (c ∷ e ∷ es) (braced_escape es)
braced_last c e es x y =
    let n = hex_len es in
    let size = nat_lt 0 n && nat_lt n 7 in
    let brace = begins_with 125 (drop n es) in
    let value = hex_value 0 (take n es) in
    either_last (c ∷ e ∷ es) (size && brace && scalar value) _ None
    (λ t. braced_digits c e es value x y (and_parts size brace (and_parts (size && brace) (scalar value) t).0).1) (none_last (c ∷ e ∷ es))

unicode_last : (c : ℕ) (cs : List ℕ) → c ≡ 117 → QuoteLast (c ∷ cs) (unicode_escape cs)
unicode_last c [] x = none_last (c ∷ [])
unicode_last c (e ∷ es) x = either_last (c ∷ e ∷ es) (e == 123) _ None (λ t. braced_last c e es x (eqb-true e 123 t)) (none_last (c ∷ e ∷ es))

escape_last : (cs : List ℕ) → QuoteLast cs (escape cs)
escape_last [] = none_last []
escape_last (c ∷ cs) =
    let all = c ∷ cs in
    either_last all (c == 110) _ _ (λ t. one_last c cs _)
    (either_last all (c == 114) _ _ (λ t. one_last c cs _)
    (either_last all (c == 116) _ _ (λ t. one_last c cs _)
    (either_last all (c == 92) _ _ (λ t. one_last c cs _)
    (either_last all (c == 48) _ _ (λ t. one_last c cs _)
    (either_last all (c == 39) _ _ (λ t. one_last c cs _)
    (either_last all (c == 34) _ _ (λ t. one_last c cs _)
    (either_last all (c == 120) _ _ (λ t. byte_last c cs (eqb-true c 120 t))
    (either_last all (c == 117) _ _ (λ t. unicode_last c cs (eqb-true c 117 t)) (none_last all)))))))))

plain_last : (c : ℕ) (cs : List ℕ) → QuoteLast cs (Some (c, 0))
plain_last c cs v n k ds e l h = let m : 0 ≡ n = same_more (c, 0) (v, n) e in absurd (omega arith)

unit_last : (c : ℕ) (cs : List ℕ) → QuoteLast cs (unit c cs)
unit_last c cs = either_last cs (c == 92) _ _ (λ t. escape_last cs) (plain_last c cs)

unmapped : {A B : Type 0} (f : A → B) (r : Option A) → option_map f r ≡ None → r ≡ None
unmapped f None h = refl
unmapped f (Some x) h = absurd (cc)

-- a body that fails fails from each of its units on
fails_on : (cs : List ℕ) (at c v more : ℕ) → at < length cs → c ≡ get_or cs at c → (c ≡ 34 → ⊥) → unit c (drop (at + 1) cs) ≡ Some (v, more)
    → body 0 (drop at cs) ≡ None → body 0 (drop (at + more + 1) cs) ≡ None
fails_on cs at c v more l g h e f =
    let past : at + 1 + more ≡ at + more + 1 = omega arith in
    let here : body 0 (c ∷ drop (at + 1) cs) ≡ None = ap (body 0) (sym (front_at cs at c l g)) ∙ f in
    let rest = unmapped _ (body 0 (drop more (drop (at + 1) cs))) (sym (body_unit c (drop (at + 1) cs) v more h e) ∙ here) in
    ap (body 0) (sym (drop-drop more (at + 1) cs ∙ ap (λ n. drop n cs) past)) ∙ rest

-- what a loop over the units knows
pub record Failing (cs : List ℕ) (at : ℕ) : Type 0 where
  pub within : at ≤ length cs
  pub fails : body 0 cs ≡ None → body 0 (drop at cs) ≡ None
  pub barren : IsBarrenBody cs at

pub failing_start : (cs : List ℕ) → Failing cs 0
failing_start cs = record { within = omega arith; fails = λ h. h; barren = λ k ds l. absurd (omega arith) }

barren_on : (cs : List ℕ) (at c v more : ℕ) → at < length cs → c ≡ get_or cs at c → (c ≡ 34 → ⊥) → unit c (drop (at + 1) cs) ≡ Some (v, more)
    → Failing cs at → (body 0 cs ≡ None → body 0 (drop (at + more + 1) cs) ≡ None) → IsBarrenBody cs (at + more + 1)
barren_on cs at c v more l g h e f next k ds low q none =
    elim (cases_lt k at) [
      | inl before ↦ f.barren k ds before q none
      | inr from ↦ elim (cases_lt at k) [
        | inr same ↦
            let here : k ≡ at = omega arith in
            let first : c ∷ drop (at + 1) cs ≡ 34 ∷ ds = sym (front_at cs at c l g) ∙ ap (λ i. drop i cs) (sym here) ∙ q in
            absurd (h (cc))
        | inl inside ↦
            let i = k - (at + 1) in
            let there : at + 1 + i ≡ k = omega arith in
            let past : at + 1 + more ≡ at + more + 1 = omega arith in
            let last : ds ≡ drop more (drop (at + 1) cs) =
            unit_last c (drop (at + 1) cs) v more i ds e (omega arith) (drop-drop i (at + 1) cs ∙ ap (λ j. drop j cs) there ∙ q) in
            ap (body 0) (last ∙ drop-drop more (at + 1) cs ∙ ap (λ n. drop n cs) past) ∙ next none
      ]
    ]

pub failing_on : (cs : List ℕ) (at c v more : ℕ) → at < length cs → at + more + 1 ≤ length cs → c ≡ get_or cs at c → (c ≡ 34 → ⊥) → unit c (drop (at + 1) cs) ≡ Some (v, more)
    → Failing cs at → Failing cs (at + more + 1)
failing_on cs at c v more l m g h e f =
    let next : body 0 cs ≡ None → body 0 (drop (at + more + 1) cs) ≡ None = λ none. fails_on cs at c v more l g h e (f.fails none) in
    record { within = m; fails = next; barren = barren_on cs at c v more l g h e f next }

mapped : {A B : Type 0} (f : A → B) (r : Option A) → r ≡ None → option_map f r ≡ None
mapped f r e = ap (option_map f) e

quote_none : (ds : List ℕ) → body 0 ds ≡ None → front (34 ∷ ds) ≡ None
quote_none ds e = mapped _ (body 0 ds) e

pub quote_fails : (ds : List ℕ) → front (34 ∷ ds) ≡ None → body 0 ds ≡ None
quote_fails ds e = unmapped _ (body 0 ds) e

-- after a quote whose literal fails, none begins among the first n characters
pub barren_after : (cs : List ℕ) (n : ℕ) → n ≤ length cs → IsBarrenBody cs n → body 0 cs ≡ None → IsBarren (34 ∷ cs) (length cs - n)
barren_after cs n m b none zero ds q l = quote_none ds (let same : cs ≡ ds = cc in ap (body 0) (sym same) ∙ none)
barren_after cs n m b none (suc k) ds q l =
    let long : length cs - k ≡ suc (length ds) = sym (length-drop k cs) ∙ ap length q in
    quote_none ds (b k ds (omega arith) q none)

pub barren_follows : (cs rest : List ℕ) (left : ℕ) → Follows cs rest → IsBarren cs left → IsBarren rest left
barren_follows cs rest left f b k ds q l =
    b (f.skipped + k) ds (sym (drop-drop k f.skipped cs) ∙ ap (drop k) (sym f.is) ∙ q) l

-- the quote at the front, and what follows it
pub quote_split : (cs : List ℕ) (c : ℕ) → 0 < length cs → c ≡ get_or cs 0 c → c ≡ 34 → cs ≡ 34 ∷ take (length cs - 1) (drop 1 cs)
quote_split cs c l g e = front_at cs 0 c l g ∙ ap (λ x. x ∷ drop 1 cs) e ∙ ap (λ ds. 34 ∷ ds) (sym (rest_from 1 cs))

-- a quote that is known to begin no literal
pub barren_quote : (cs : List ℕ) (c left : ℕ) → 0 < length cs → c ≡ get_or cs 0 c → c ≡ 34 → IsBarren cs left → left ≤ length (take (length cs - 1) (drop 1 cs)) → front cs ≡ None
barren_quote cs c left l g e b low =
    let split = quote_split cs c l g e in
    ap front split ∙ b 0 (take (length cs - 1) (drop 1 cs)) split low

pub failed_quote : (cs : List ℕ) (c : ℕ) → 0 < length cs → c ≡ get_or cs 0 c → c ≡ 34 → front cs ≡ None → body 0 (take (length cs - 1) (drop 1 cs)) ≡ None
failed_quote cs c l g e none = quote_fails (take (length cs - 1) (drop 1 cs)) (ap front (sym (quote_split cs c l g e)) ∙ none)

-- none begins in no characters
pub barren_start : (cs : List ℕ) (left : ℕ) → length cs ≤ left → IsBarren cs left
barren_start cs left m k ds q l =
    let long : length cs - k ≡ suc (length ds) = sym (length-drop k cs) ∙ ap length q in
    absurd (omega arith)
