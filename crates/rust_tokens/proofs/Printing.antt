-- Tokens that are printed are read again, one by one.
use Rattle.std.proofs.Common.{◌≡◌, ◌+◌, ◌*◌, ◌<◌, ℕ, zero, suc, Bool, true, false, List, [], ◌∷◌, ◌++◌, cond, eqb, ◌&&◌, take, drop, length, Option, Some, None, inl, inr, refl, ap, sym, subst, ◌∙◌, append_assoc, append-nil, arith, encode_utf8, encode_utf8_all, length-append}
use Rattle.std.specs.Prelude.{option_map, flat_map, nat_lt}
use Rattle.std.specs.Char.{is_digit, digit_value}
use Rattle.std.proofs.lemmas.Bool.{and_parts, ltb-true}
use Rattle.std.proofs.lemmas.Bool.Decides.{eqb_tells}
use Rattle.std.proofs.lemmas.Str.{encode_ascii, encodes-append}
use Rattle.token_trees.specs.Text.{numbered, shown, escaped}
use Rattle.rust_tokens.specs.Front.{hex_len, hex_value, byte_escape, braced_escape, unicode_escape, escape, unit, body, begins_with}
use Rattle.rust_tokens.proofs.Bodies.{after_body, body_unit, body_quote, body_bad, body_more, eqb_no}
use lib.Utf8.{scalar, scalars, low_scalar}

-- Scalar values

pub scalars_append : (xs bs : List ℕ) → scalars xs ≡ true → scalars bs ≡ true → scalars (xs ++ bs) ≡ true
scalars_append [] bs h k = k
scalars_append (a ∷ xs) bs h k =
    let p = and_parts (scalar a) (scalars xs) h in
    ap (λ b. b && scalars (xs ++ bs)) p.0 ∙ scalars_append xs bs p.1 k

pub scalars_drop : (n : ℕ) (cs : List ℕ) → scalars cs ≡ true → scalars (drop n cs) ≡ true
scalars_drop zero cs h = h
scalars_drop (suc n) [] h = h
scalars_drop (suc n) (c ∷ cs) h = scalars_drop n cs (and_parts (scalar c) (scalars cs) h).1

pub scalars_take : (n : ℕ) (cs : List ℕ) → scalars cs ≡ true → scalars (take n cs) ≡ true
scalars_take zero cs h = refl
scalars_take (suc n) [] h = refl
scalars_take (suc n) (c ∷ cs) h =
    let p = and_parts (scalar c) (scalars cs) h in
    ap (λ b. b && scalars (take n cs)) p.0 ∙ scalars_take n cs p.1

-- The characters of string literals

same_found : (p q : ℕ × ℕ) → Some p ≡ Some q → (p.0 ≡ q.0) × (p.1 ≡ q.1)
same_found p q h = let e : p ≡ q = cc in (ap (λ r. r.0) e, ap (λ r. r.1) e)

some_scalar : (v m : ℕ) → scalar v ≡ true → (w k : ℕ) → ◌≡◌ {A = Option (ℕ × ℕ)} (Some (v, m)) (Some (w, k)) → scalar w ≡ true
some_scalar v m h w k e = sym (ap scalar (same_found (v, m) (w, k) e).0) ∙ h

cond_scalar : (b : Bool) (x y : Option (ℕ × ℕ)) → ((v m : ℕ) → b ≡ true → x ≡ Some (v, m) → scalar v ≡ true) → ((v m : ℕ) → y ≡ Some (v, m) → scalar v ≡ true) → (v m : ℕ) → cond b x y ≡ Some (v, m) → scalar v ≡ true
cond_scalar true x y h k v m e = h v m refl e
cond_scalar false x y h k v m e = k v m e

no_scalar : (v m : ℕ) → ◌≡◌ {A = Option (ℕ × ℕ)} None (Some (v, m)) → scalar v ≡ true
no_scalar v m e = absurd (cc)

low_byte : (c d : ℕ) → (is_digit c 8 && is_digit d 16) ≡ true → 16 * digit_value c + digit_value d < 55296
low_byte c d h =
    let p = and_parts (is_digit c 8) (is_digit d 16) h in
    let low = ltb-true (digit_value c) 8 p.0 in
    let high = ltb-true (digit_value d) 16 p.1 in
    omega arith

byte_scalar : (cs : List ℕ) (v m : ℕ) → byte_escape cs ≡ Some (v, m) → scalar v ≡ true
byte_scalar [] v m e = no_scalar v m e
byte_scalar (c ∷ []) v m e = no_scalar v m e
byte_scalar (c ∷ d ∷ ds) v m e =
    cond_scalar (is_digit c 8 && is_digit d 16) _ _ (λ w k b. some_scalar (16 * digit_value c + digit_value d) 3 (low_scalar (16 * digit_value c + digit_value d) (low_byte c d b)) w k) no_scalar v m e

braced_scalar : (cs : List ℕ) (v m : ℕ) → braced_escape cs ≡ Some (v, m) → scalar v ≡ true
braced_scalar cs v m e =
    let n = hex_len cs in
    let value = hex_value 0 (take n cs) in
    cond_scalar (nat_lt 0 n && nat_lt n 7 && begins_with 125 (drop n cs) && scalar value) _ _
    (λ w k b. some_scalar value (n + 3) (and_parts (nat_lt 0 n && nat_lt n 7 && begins_with 125 (drop n cs)) (scalar value) b).1 w k) no_scalar v m e

unicode_scalar : (cs : List ℕ) (v m : ℕ) → unicode_escape cs ≡ Some (v, m) → scalar v ≡ true
unicode_scalar [] v m e = no_scalar v m e
unicode_scalar (c ∷ cs) v m e = cond_scalar (eqb c 123) _ _ (λ w k b. braced_scalar cs w k) no_scalar v m e

escape_scalar : (cs : List ℕ) (v m : ℕ) → escape cs ≡ Some (v, m) → scalar v ≡ true
escape_scalar [] v m e = no_scalar v m e
escape_scalar (c ∷ cs) v m e =
    cond_scalar (eqb c 110) _ _ (λ w k b. some_scalar 10 1 refl w k)
    (cond_scalar (eqb c 114) _ _ (λ w k b. some_scalar 13 1 refl w k)
    (cond_scalar (eqb c 116) _ _ (λ w k b. some_scalar 9 1 refl w k)
    (cond_scalar (eqb c 92) _ _ (λ w k b. some_scalar 92 1 refl w k)
    (cond_scalar (eqb c 48) _ _ (λ w k b. some_scalar 0 1 refl w k)
    (cond_scalar (eqb c 39) _ _ (λ w k b. some_scalar 39 1 refl w k)
    (cond_scalar (eqb c 34) _ _ (λ w k b. some_scalar 34 1 refl w k)
    (cond_scalar (eqb c 120) _ _ (λ w k b. byte_scalar cs w k)
    (cond_scalar (eqb c 117) _ _ (λ w k b. unicode_scalar cs w k) no_scalar)))))))) v m e

unit_scalar : (c : ℕ) (cs : List ℕ) → scalar c ≡ true → (v m : ℕ) → unit c cs ≡ Some (v, m) → scalar v ≡ true
unit_scalar c cs h = cond_scalar (eqb c 92) _ _ (λ w k b. escape_scalar cs w k) (some_scalar c 0 h)

-- what a body stands for is the text of characters
pub record IsText (v : List ℕ) : Type 0 where
  pub codes : List ℕ
  pub scalar_values : scalars codes ≡ true
  pub bytes : v ≡ encode_utf8_all codes

pub same_body : (p q : List ℕ × ℕ) → Some p ≡ Some q → (p.0 ≡ q.0) × (p.1 ≡ q.1)
same_body p q h = let e : p ≡ q = cc in (ap (λ r. r.0) e, ap (λ r. r.1) e)

map_some : (f : List ℕ × ℕ → List ℕ × ℕ) (r : Option (List ℕ × ℕ)) (q : List ℕ × ℕ) → option_map f r ≡ Some q → (p : List ℕ × ℕ) × (r ≡ Some p) × ((f p).0 ≡ q.0)
map_some f None q h = absurd (cc)
map_some f (Some p) q h = (p, refl, (same_body (f p) q h).0)

no_text : (v : List ℕ) (m : ℕ) → ◌≡◌ {A = Option (List ℕ × ℕ)} None (Some (v, m)) → IsText v
no_text v m e = absurd (cc)

text_one : (u : ℕ) (w v : List ℕ) → scalar u ≡ true → IsText w → encode_utf8 u ++ w ≡ v → IsText v
text_one u w v h t e = record {
  codes = u ∷ t.codes;
  scalar_values = ap (λ b. b && scalars t.codes) h ∙ t.scalar_values;
  bytes = sym e ∙ ap (λ l. encode_utf8 u ++ l) t.bytes;
}

body_text_zero : (c : ℕ) (cs : List ℕ) (v : List ℕ) (m : ℕ) → scalar c ≡ true → ((k : ℕ) (w : List ℕ) (n : ℕ) → body k cs ≡ Some (w, n) → IsText w) → body 0 (c ∷ cs) ≡ Some (v, m)
    → (r : Option (ℕ × ℕ)) → unit c cs ≡ r → (c ≡ 34 → ⊥) → IsText v
body_text_zero c cs v m h rec e None bad plain = no_text v m (sym (body_bad c cs plain bad) ∙ e)
body_text_zero c cs v m h rec e (Some u) found plain =
    let p = map_some (λ r. (encode_utf8 u.0 ++ r.0, r.1 + 1)) (body u.1 cs) (v, m) (sym (body_more c cs u.0 u.1 plain found) ∙ e) in
    text_one u.0 p.0.0 v (unit_scalar c cs h u.0 u.1 found) (rec u.1 p.0.0 p.0.1 p.1) p.2

pub body_text : (cs : List ℕ) (k : ℕ) → scalars cs ≡ true → (v : List ℕ) (m : ℕ) → body k cs ≡ Some (v, m) → IsText v
body_text [] zero h v m e = no_text v m e
body_text [] (suc k) h v m e = no_text v m e
body_text (c ∷ cs) (suc k) h v m e =
    let p = map_some (λ r. (r.0, r.1 + 1)) (body k cs) (v, m) e in
    let t = body_text cs k (and_parts (scalar c) (scalars cs) h).1 p.0.0 p.0.1 p.1 in
    record { codes = t.codes; scalar_values = t.scalar_values; bytes = sym p.2 ∙ t.bytes }
body_text (c ∷ cs) zero h v m e =
    let ok = and_parts (scalar c) (scalars cs) h in
    elim (eqb_tells c 34) [
      | inl quote ↦ record { codes = []; scalar_values = refl; bytes = sym (same_body ([], 1) (v, m) (sym (body_quote c cs quote.1) ∙ e)).0 }
      | inr plain ↦ body_text_zero c cs v m ok.0 (λ j w n f. body_text cs j ok.1 w n f) e (unit c cs) refl plain.1
    ]

-- The spelling of a string literal's character, in characters
abbrev shown_chars : ℕ → List ℕ
shown_chars c =
    cond (eqb c 8234) (numbered 50 97)
    (cond (eqb c 8235) (numbered 50 98)
    (cond (eqb c 8236) (numbered 50 99)
    (cond (eqb c 8237) (numbered 50 100)
    (cond (eqb c 8238) (numbered 50 101)
    (cond (eqb c 8294) (numbered 54 54)
    (cond (eqb c 8295) (numbered 54 55)
    (cond (eqb c 8296) (numbered 54 56)
    (cond (eqb c 8297) (numbered 54 57) (c ∷ [])))))))))

abbrev pub spelled : ℕ → List ℕ
spelled c =
    cond (eqb c 10) (92 ∷ 110 ∷ [])
    (cond (eqb c 13) (92 ∷ 114 ∷ [])
    (cond (eqb c 9) (92 ∷ 116 ∷ [])
    (cond (eqb c 0) (92 ∷ 48 ∷ [])
    (cond (eqb c 92) (92 ∷ 92 ∷ [])
    (cond (eqb c 34) (92 ∷ 34 ∷ []) (shown_chars c))))))

ascii_two : (a b : ℕ) → a < 128 → b < 128 → encode_utf8_all (a ∷ b ∷ []) ≡ a ∷ b ∷ []
ascii_two a b h k = ap (λ l. l ++ encode_utf8_all (b ∷ [])) (encode_ascii a h) ∙ ap (λ l. a ∷ (l ++ [])) (encode_ascii b k)

both_encoded : (b : Bool) (x y v w : List ℕ) → encode_utf8_all x ≡ v → encode_utf8_all y ≡ w → encode_utf8_all (cond b x y) ≡ cond b v w
both_encoded true x y v w h k = h
both_encoded false x y v w h k = k

shown_bytes : (c : ℕ) → encode_utf8_all (shown_chars c) ≡ shown c
unfolding lib.Utf8.encode
shown_bytes c =
    both_encoded (eqb c 8234) _ _ _ _ refl
    (both_encoded (eqb c 8235) _ _ _ _ refl
    (both_encoded (eqb c 8236) _ _ _ _ refl
    (both_encoded (eqb c 8237) _ _ _ _ refl
    (both_encoded (eqb c 8238) _ _ _ _ refl
    (both_encoded (eqb c 8294) _ _ _ _ refl
    (both_encoded (eqb c 8295) _ _ _ _ refl
    (both_encoded (eqb c 8296) _ _ _ _ refl
    (both_encoded (eqb c 8297) _ _ _ _ refl (append-nil (encode_utf8 c))))))))))

spelled_bytes : (c : ℕ) → encode_utf8_all (spelled c) ≡ escaped c
spelled_bytes c =
    both_encoded (eqb c 10) _ _ _ _ (ascii_two 92 110 (omega arith) (omega arith))
    (both_encoded (eqb c 13) _ _ _ _ (ascii_two 92 114 (omega arith) (omega arith))
    (both_encoded (eqb c 9) _ _ _ _ (ascii_two 92 116 (omega arith) (omega arith))
    (both_encoded (eqb c 0) _ _ _ _ (ascii_two 92 48 (omega arith) (omega arith))
    (both_encoded (eqb c 92) _ _ _ _ (ascii_two 92 92 (omega arith) (omega arith))
    (both_encoded (eqb c 34) _ _ _ _ (ascii_two 92 34 (omega arith) (omega arith)) (shown_bytes c))))))

pub spelled_all : (vs : List ℕ) → encode_utf8_all (flat_map spelled vs) ≡ flat_map escaped vs
spelled_all [] = refl
spelled_all (v ∷ vs) =
    encodes-append (spelled v) (flat_map spelled vs) ∙ ap (λ l. l ++ encode_utf8_all (flat_map spelled vs)) (spelled_bytes v)
    ∙ ap (λ l. escaped v ++ l) (spelled_all vs)

both_scalars : (b : Bool) (x y : List ℕ) → scalars x ≡ true → scalars y ≡ true → scalars (cond b x y) ≡ true
both_scalars true x y h k = h
both_scalars false x y h k = k

shown_scalars : (c : ℕ) → scalar c ≡ true → scalars (shown_chars c) ≡ true
shown_scalars c h =
    both_scalars (eqb c 8234) _ _ refl (both_scalars (eqb c 8235) _ _ refl (both_scalars (eqb c 8236) _ _ refl (both_scalars (eqb c 8237) _ _ refl (both_scalars (eqb c 8238) _ _ refl (both_scalars (eqb c 8294) _ _ refl (both_scalars (eqb c 8295) _ _ refl (both_scalars (eqb c 8296) _ _ refl (both_scalars (eqb c 8297) _ _ refl (ap (λ b. b && true) h)))))))))

spelled_scalars : (c : ℕ) → scalar c ≡ true → scalars (spelled c) ≡ true
spelled_scalars c h =
    both_scalars (eqb c 10) _ _ refl (both_scalars (eqb c 13) _ _ refl (both_scalars (eqb c 9) _ _ refl (both_scalars (eqb c 0) _ _ refl
    (both_scalars (eqb c 92) _ _ refl (both_scalars (eqb c 34) _ _ refl (shown_scalars c h))))))

pub spelled_all_scalars : (vs : List ℕ) → scalars vs ≡ true → scalars (flat_map spelled vs) ≡ true
spelled_all_scalars [] h = refl
spelled_all_scalars (v ∷ vs) h =
    let p = and_parts (scalar v) (scalars vs) h in
    scalars_append (spelled v) (flat_map spelled vs) (spelled_scalars v p.0) (spelled_all_scalars vs p.1)

abbrev ReadsOne : ℕ → List ℕ → List ℕ → Type 0
ReadsOne v tail s = body 0 (s ++ tail) ≡ after_body (encode_utf8 v) (length s) (body 0 tail)

choose : (v k : ℕ) (tail a r : List ℕ) → (v ≡ k → ReadsOne v tail a) → ((v ≡ k → ⊥) → ReadsOne v tail r) → ReadsOne v tail (cond (eqb v k) a r)
choose v k tail a r h g =
    let P : Bool → Type 0 = λ b. ReadsOne v tail (cond b a r) in
    elim (eqb_tells v k) [ inl p ↦ subst P (sym p.0) (h p.1) | inr p ↦ subst P (sym p.0) (g p.1) ]

escape_read : (v k c : ℕ) (tail : List ℕ) → unit 92 (c ∷ tail) ≡ Some (k, 1) → v ≡ k → ReadsOne v tail (92 ∷ c ∷ [])
escape_read v k c tail e h =
    body_unit 92 (c ∷ tail) k 1 (λ n. absurd (omega arith)) e ∙ ap (λ x. after_body (encode_utf8 x) 2 (body 0 tail)) (sym h)

plain_read : (v : ℕ) (tail : List ℕ) → (v ≡ 92 → ⊥) → (v ≡ 34 → ⊥) → ReadsOne v tail (v ∷ [])
plain_read v tail h k = body_unit v tail v 0 k (ap (λ b. cond b (escape tail) (Some (v, 0))) (eqb_no v 92 h))

number_read : (v n x y : ℕ) (tail : List ℕ) → unit 92 (117 ∷ 123 ∷ 50 ∷ 48 ∷ x ∷ y ∷ 125 ∷ tail) ≡ Some (n, 7) → v ≡ n → ReadsOne v tail (numbered x y)
number_read v n x y tail e h =
    body_unit 92 (117 ∷ 123 ∷ 50 ∷ 48 ∷ x ∷ y ∷ 125 ∷ tail) n 7 (λ q. absurd (omega arith)) e ∙ ap (λ z. after_body (encode_utf8 z) 8 (body 0 tail)) (sym h)

shown_read : (v : ℕ) (tail : List ℕ) → (v ≡ 92 → ⊥) → (v ≡ 34 → ⊥) → ReadsOne v tail (shown_chars v)
shown_read v tail h k =
    choose v 8234 tail _ _ (number_read v 8234 50 97 tail refl) (λ n0.
    choose v 8235 tail _ _ (number_read v 8235 50 98 tail refl) (λ n1.
    choose v 8236 tail _ _ (number_read v 8236 50 99 tail refl) (λ n2.
    choose v 8237 tail _ _ (number_read v 8237 50 100 tail refl) (λ n3.
    choose v 8238 tail _ _ (number_read v 8238 50 101 tail refl) (λ n4.
    choose v 8294 tail _ _ (number_read v 8294 54 54 tail refl) (λ n5.
    choose v 8295 tail _ _ (number_read v 8295 54 55 tail refl) (λ n6.
    choose v 8296 tail _ _ (number_read v 8296 54 56 tail refl) (λ n7.
    choose v 8297 tail _ _ (number_read v 8297 54 57 tail refl) (λ n8. plain_read v tail h k)))))))))

pub spelled_read : (v : ℕ) (tail : List ℕ) → ReadsOne v tail (spelled v)
spelled_read v tail =
    choose v 10 tail _ _ (escape_read v 10 110 tail refl) (λ n1.
    choose v 13 tail _ _ (escape_read v 13 114 tail refl) (λ n2.
    choose v 9 tail _ _ (escape_read v 9 116 tail refl) (λ n3.
    choose v 0 tail _ _ (escape_read v 0 48 tail refl) (λ n4.
    choose v 92 tail _ _ (escape_read v 92 92 tail refl) (λ n5.
    choose v 34 tail _ _ (escape_read v 34 34 tail refl) (λ n6. shown_read v tail n5 n6))))))

pub spelled_body : (vs tail : List ℕ) → body 0 (flat_map spelled vs ++ 34 ∷ tail) ≡ Some (encode_utf8_all vs, length (flat_map spelled vs) + 1)
spelled_body [] tail = refl
spelled_body (v ∷ vs) tail =
    let rest = flat_map spelled vs ++ 34 ∷ tail in
    let len = length-append (spelled v) (flat_map spelled vs) in
    let whole : length (spelled v) + (length (flat_map spelled vs) + 1) ≡ length (spelled v ++ flat_map spelled vs) + 1 = omega arith in
    ap (body 0) (append_assoc (spelled v) (flat_map spelled vs) (34 ∷ tail)) ∙ spelled_read v rest
    ∙ ap (after_body (encode_utf8 v) (length (spelled v))) (spelled_body vs tail)
    ∙ ap (λ n. Some (encode_utf8 v ++ encode_utf8_all vs, n)) whole
