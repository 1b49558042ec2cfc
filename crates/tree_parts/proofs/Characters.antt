-- How characters are decoded.
use Rattle.std.proofs.Common.{◌≡◌, ◌≢◌, ℕ, suc, ◌<◌, ◌≤◌, List, [], ◌∷◌, ◌++◌, length, get_or, refl, subst, ap, sym, ◌∙◌, arith, append_assoc, append-nil}
use Rattle.std.specs.Char.{encode_utf8}
use Rattle.std.proofs.lemmas.Bool.{ne_eqb}
use Rattle.std.proofs.lemmas.Str.{inside_one, length-encode, len_utf8_bounds}
use Rattle.schema_defs.specs.Location.{unescaped, after_tilde}

plain_byte : (b : ℕ) (r : List ℕ) → b ≢ 126 → unescaped (b ∷ r) ≡ b ∷ unescaped r
plain_byte b r n = rw (ne_eqb b 126 n) refl

plain_front : (bs r : List ℕ) → ((k : ℕ) → k < length bs → get_or bs k 0 ≢ 126) → unescaped (bs ++ r) ≡ bs ++ unescaped r
plain_front [] r h = refl
plain_front (b ∷ bs) r h = plain_byte b (bs ++ r) (h 0 (omega arith)) ∙ ap (λ t. b ∷ t) (plain_front bs r (λ k lt. h (suc k) (omega arith)))

byte_is : (c k n : ℕ) → n < 128 → k < length (encode_utf8 c) → get_or (encode_utf8 c) k 0 ≡ n → c ≡ n
byte_is c k n low lt e = inside_one c [] (encode_utf8 c) k (sym (append-nil (encode_utf8 c))) lt (omega (arith, e)) ∙ e

-- a character but `~` decodes to itself
pub plain_character : (c : ℕ) (r : List ℕ) → c ≢ 126 → unescaped (encode_utf8 c ++ r) ≡ encode_utf8 c ++ unescaped r
plain_character c r n = plain_front (encode_utf8 c) r (λ k lt e. n (byte_is c k 126 (omega arith) lt e))

behind_byte : (b : ℕ) (r : List ℕ) → b ≢ 48 → b ≢ 49 → b ≢ 126 → after_tilde (b ∷ r) ≡ 126 ∷ b ∷ unescaped r
behind_byte b r n m o = rw (ne_eqb b 48 n, ne_eqb b 49 m, ne_eqb b 126 o) refl

behind_front : (bs r : List ℕ) → 1 ≤ length bs → ((k : ℕ) → k < length bs → (get_or bs k 0 ≢ 48) × (get_or bs k 0 ≢ 49) × (get_or bs k 0 ≢ 126)) → after_tilde (bs ++ r) ≡ 126 ∷ (bs ++ unescaped r)
behind_front [] r some h = absurd (omega (arith, some))
behind_front (b ∷ bs) r some h =
    let first = h 0 (omega arith) in
    behind_byte b (bs ++ r) first.0 first.1 first.2 ∙ ap (λ t. 126 ∷ b ∷ t) (plain_front bs r (λ k lt. (h (suc k) (omega arith)).2))

-- behind a `~` any character but `0`, `1` and `~` leaves both
pub behind_character : (c : ℕ) (r : List ℕ) → 1 ≤ length (encode_utf8 c) → c ≢ 48 → c ≢ 49 → c ≢ 126 → after_tilde (encode_utf8 c ++ r) ≡ 126 ∷ (encode_utf8 c ++ unescaped r)
behind_character c r some n m o =
    behind_front (encode_utf8 c) r some
    (λ k lt. (λ e. n (byte_is c k 48 (omega arith) lt e), λ e. m (byte_is c k 49 (omega arith) lt e), λ e. o (byte_is c k 126 (omega arith) lt e)))

some_bytes : (c : ℕ) → 1 ≤ length (encode_utf8 c)
some_bytes c = subst (λ n. 1 ≤ n) (sym (length-encode c)) (len_utf8_bounds c).0

-- ---- turns

pub plain_pushed : (old new : List ℕ) (c : ℕ) → new ≡ old ++ encode_utf8 c → c ≢ 126 → (rest : List ℕ) → new ++ unescaped rest ≡ old ++ unescaped (encode_utf8 c ++ rest)
plain_pushed old new c e n rest = ap (λ t. t ++ unescaped rest) e ∙ append_assoc old (encode_utf8 c) (unescaped rest) ∙ ap (λ t. old ++ t) (sym (plain_character c rest n))

pub tilde_met : (old : List ℕ) (c : ℕ) → c ≡ 126 → (rest : List ℕ) → old ++ after_tilde rest ≡ old ++ unescaped (encode_utf8 c ++ rest)
unfolding encode_utf8
tilde_met old c h rest = ap (λ d. old ++ unescaped (encode_utf8 d ++ rest)) (sym h)

pub zero_pushed : (old new : List ℕ) (c : ℕ) → new ≡ old ++ encode_utf8 126 → c ≡ 48 → (rest : List ℕ) → new ++ unescaped rest ≡ old ++ after_tilde (encode_utf8 c ++ rest)
unfolding encode_utf8
zero_pushed old new c e h rest = ap (λ t. t ++ unescaped rest) e ∙ append_assoc old (126 ∷ []) (unescaped rest) ∙ ap (λ d. old ++ after_tilde (encode_utf8 d ++ rest)) (sym h)

pub one_pushed : (old new : List ℕ) (c : ℕ) → new ≡ old ++ encode_utf8 47 → c ≡ 49 → (rest : List ℕ) → new ++ unescaped rest ≡ old ++ after_tilde (encode_utf8 c ++ rest)
unfolding encode_utf8
one_pushed old new c e h rest = ap (λ t. t ++ unescaped rest) e ∙ append_assoc old (47 ∷ []) (unescaped rest) ∙ ap (λ d. old ++ after_tilde (encode_utf8 d ++ rest)) (sym h)

pub tilde_pushed : (old new : List ℕ) (c : ℕ) → new ≡ old ++ encode_utf8 126 → c ≡ 126 → (rest : List ℕ) → new ++ after_tilde rest ≡ old ++ after_tilde (encode_utf8 c ++ rest)
unfolding encode_utf8
tilde_pushed old new c e h rest = ap (λ t. t ++ after_tilde rest) e ∙ append_assoc old (126 ∷ []) (after_tilde rest) ∙ ap (λ d. old ++ after_tilde (encode_utf8 d ++ rest)) (sym h)

pub both_pushed : (old mid new : List ℕ) (c : ℕ) → mid ≡ old ++ encode_utf8 126 → new ≡ mid ++ encode_utf8 c → c ≢ 48 → c ≢ 49 → c ≢ 126
    → (rest : List ℕ) → new ++ unescaped rest ≡ old ++ after_tilde (encode_utf8 c ++ rest)
unfolding encode_utf8
both_pushed old mid new c e f n m o rest =
    ap (λ t. t ++ unescaped rest) (f ∙ ap (λ t. t ++ encode_utf8 c) e ∙ append_assoc old (126 ∷ []) (encode_utf8 c))
    ∙ append_assoc old (126 ∷ encode_utf8 c) (unescaped rest)
    ∙ ap (λ t. old ++ t) (sym (behind_character c rest (some_bytes c) n m o))
