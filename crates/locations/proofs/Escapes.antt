-- How characters are written in the text of a location.
use Rattle.std.proofs.Common.{◌≡◌, ◌≢◌, ℕ, suc, ◌<◌, List, [], ◌∷◌, ◌++◌, length, get_or, refl, ap, sym, ◌∙◌, arith, append_assoc, append-nil}
use Rattle.std.specs.Char.{encode_utf8}
use Rattle.std.proofs.lemmas.Bool.{ne_eqb}
use Rattle.std.proofs.lemmas.Str.{inside_one}
use Rattle.schema_defs.specs.Location.{escaped}

plain_byte : (b : ℕ) (r : List ℕ) → b ≢ 126 → b ≢ 47 → escaped (b ∷ r) ≡ b ∷ escaped r
plain_byte b r n m = rw (ne_eqb b 126 n, ne_eqb b 47 m) refl

plain_front : (bs r : List ℕ) → ((k : ℕ) → k < length bs → (get_or bs k 0 ≢ 126) × (get_or bs k 0 ≢ 47)) → escaped (bs ++ r) ≡ bs ++ escaped r
plain_front [] r h = refl
plain_front (b ∷ bs) r h =
    let first = h 0 (omega arith) in
    plain_byte b (bs ++ r) first.0 first.1 ∙ ap (λ t. b ∷ t) (plain_front bs r (λ k lt. h (suc k) (omega arith)))

byte_is : (c k n : ℕ) → n < 128 → k < length (encode_utf8 c) → get_or (encode_utf8 c) k 0 ≡ n → c ≡ n
byte_is c k n low lt e = inside_one c [] (encode_utf8 c) k (sym (append-nil (encode_utf8 c))) lt (omega (arith, e)) ∙ e

-- any character but those two is written as it is
pub plain_character : (c : ℕ) (r : List ℕ) → c ≢ 126 → c ≢ 47 → escaped (encode_utf8 c ++ r) ≡ encode_utf8 c ++ escaped r
plain_character c r n m = plain_front (encode_utf8 c) r (λ k lt. (λ e. n (byte_is c k 126 (omega arith) lt e), λ e. m (byte_is c k 47 (omega arith) lt e)))

-- one more character at the end of what is written
pub plain_step : (whole done more old rest : List ℕ) (c : ℕ) → c ≢ 126 → c ≢ 47 → old ≡ encode_utf8 c ++ rest → more ≡ done ++ encode_utf8 c → whole ≡ done ++ escaped old → whole ≡ more ++ escaped rest
plain_step whole done more old rest c n m ho hm h = h ∙ ap (λ t. done ++ escaped t) ho ∙ ap (λ t. done ++ t) (plain_character c rest n m) ∙ sym (append_assoc done (encode_utf8 c) (escaped rest)) ∙ ap (λ t. t ++ escaped rest) (sym hm)
