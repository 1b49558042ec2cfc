-- The names in references, read character by character.
use Rattle.std.proofs.Common.{◌≡◌, ◌≢◌, ℕ, suc, ◌<◌, List, [], ◌∷◌, ◌++◌, length, get_or, drop, true, false, Option, Some, None, option_map, Bor, refl, ap, sym, subst, ◌∙◌, arith, append_assoc, append-nil, encode_utf8, IsCharBoundary}
use Rattle.std.specs.Prelude.{nat_eq, if◌then◌else◌, MatchOption}
use Rattle.std.specs.List.{starts_with}
use Rattle.std.specs.Str.Pattern.{FindsTextPrefix, StripsPrefix}
use Rattle.std.proofs.lemmas.Bool.{ne_eqb}
use Rattle.std.proofs.lemmas.Str.{inside_one, length-encode, len_utf8_bounds}
use Rattle.std.proofs.lemmas.Str.Pattern.{starts_text}
use Rattle.schema_defs.specs.Admits.{without_prefix}
use Rattle.schema_defs.specs.Location.{unescaped, after_tilde}

front : (bs r : List ℕ) → ((k : ℕ) → k < length bs → get_or bs k 0 ≢ 126) → unescaped (bs ++ r) ≡ bs ++ unescaped r
front [] r h = refl
front (b ∷ bs) r h =
    let first : b ≢ 126 = h 0 (omega arith) in
    let later : unescaped (bs ++ r) ≡ bs ++ unescaped r = front bs r (λ k lt. h (suc k) (omega arith)) in
    rw (ne_eqb b 126 first) (ap (λ t. b ∷ t) later)

byte_is : (c k n : ℕ) → n < 128 → k < length (encode_utf8 c) → get_or (encode_utf8 c) k 0 ≡ n → c ≡ n
byte_is c k n low lt e = inside_one c [] (encode_utf8 c) k (sym (append-nil (encode_utf8 c))) lt (omega (arith, e)) ∙ e

-- any character but a tilde is itself
plain_character : (c : ℕ) (r : List ℕ) → c ≢ 126 → unescaped (encode_utf8 c ++ r) ≡ encode_utf8 c ++ unescaped r
plain_character c r n = front (encode_utf8 c) r (λ k lt e. n (byte_is c k 126 (omega arith) lt e))

after_front : (bs r : List ℕ) → 0 < length bs → ((k : ℕ) → k < length bs → get_or bs k 0 ≢ 126) → get_or bs 0 0 ≢ 48 → get_or bs 0 0 ≢ 49 → after_tilde (bs ++ r) ≡ 126 ∷ (bs ++ unescaped r)
after_front [] r p h z o = absurd (omega arith)
after_front (b ∷ bs) r p h z o =
    let first : b ≢ 126 = h 0 (omega arith) in
    let later : unescaped (bs ++ r) ≡ bs ++ unescaped r = front bs r (λ k lt. h (suc k) (omega arith)) in
    rw (ne_eqb b 48 z, ne_eqb b 49 o, ne_eqb b 126 first) (ap (λ t. 126 ∷ b ∷ t) later)

-- after a tilde too, but for the digits 0 and 1
other_character : (c : ℕ) (r : List ℕ) → c ≢ 48 → c ≢ 49 → c ≢ 126 → after_tilde (encode_utf8 c ++ r) ≡ 126 ∷ (encode_utf8 c ++ unescaped r)
other_character c r z o n =
    let p : 0 < length (encode_utf8 c) = omega (arith, length-encode c, (len_utf8_bounds c).0) in
    after_front (encode_utf8 c) r p (λ k lt e. n (byte_is c k 126 (omega arith) lt e)) (λ e. z (byte_is c 0 48 (omega arith) p e)) (λ e. o (byte_is c 0 49 (omega arith) p e))

-- a character written at the end of a name
pub plain_step : (old new : List ℕ) (c : ℕ) → c ≢ 126 → new ≡ old ++ encode_utf8 c → (rest : List ℕ) → old ++ unescaped (encode_utf8 c ++ rest) ≡ new ++ unescaped rest
plain_step old new c n e rest = ap (λ t. old ++ t) (plain_character c rest n) ∙ sym (append_assoc old (encode_utf8 c) (unescaped rest)) ∙ ap (λ t. t ++ unescaped rest) (sym e)

pub other_step : (old mid new : List ℕ) (c : ℕ) → c ≢ 48 → c ≢ 49 → c ≢ 126 → encode_utf8 126 ≡ 126 ∷ [] → mid ≡ old ++ encode_utf8 126 → new ≡ mid ++ encode_utf8 c
    → (rest : List ℕ) → old ++ after_tilde (encode_utf8 c ++ rest) ≡ new ++ unescaped rest
other_step old mid new c z o n a m e rest =
    ap (λ t. old ++ t) (other_character c rest z o n) ∙ sym (append_assoc old (126 ∷ []) (encode_utf8 c ++ unescaped rest))
    ∙ ap (λ t. t ++ (encode_utf8 c ++ unescaped rest)) (sym (m ∙ ap (λ t. old ++ t) a)) ∙ sym (append_assoc mid (encode_utf8 c) (unescaped rest)) ∙ ap (λ t. t ++ unescaped rest) (sym e)

pub stripped : (p s : List ℕ) (r : Option (Bor (List ℕ))) → MatchOption r (FindsTextPrefix p s None) (λ x. StripsPrefix (FindsTextPrefix p) s x.now) → option_map (λ t. t.now) r ≡ without_prefix p s
stripped p s None h = ap (λ b. if b then Some (drop (length p) s) else None) (starts_text false p s h)
stripped p s (Some x) h =
    let begins : true ≡ starts_with nat_eq s p = starts_text true p s (h.0, h.1, subst (IsCharBoundary s) (sym h.1.0) h.1.2) in
    ap Some (h.2 ∙ ap (λ n. drop n s) h.1.0) ∙ ap (λ b. if b then Some (drop (length p) s) else None) begins
