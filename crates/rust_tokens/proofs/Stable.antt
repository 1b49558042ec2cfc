-- A token that is printed is read again, where what follows lets it end.
use Rattle.std.proofs.Common.{◌≡◌, ◌+◌, ◌≤◌, ◌<◌, ℕ, zero, suc, Bool, true, false, List, [], ◌∷◌, ◌++◌, cond, eqb, ◌&&◌, ◌||◌, take, drop, length, Option, Some, None, inl, inr, refl, ap, sym, subst, ◌∙◌, append_assoc, append-nil, add-one, arith, encode_utf8, encode_utf8_all, length-append}
use Rattle.std.specs.Prelude.{option_map, flat_map}
use Rattle.std.specs.Char.{is_ascii_digit}
use Rattle.std.specs.Str.{chars}
use Rattle.std.proofs.lemmas.Bool.{and_parts}
use Rattle.std.proofs.lemmas.Bool.Decides.{eqb_tells}
use Rattle.std.proofs.lemmas.List.{length-take-le}
use Rattle.std.proofs.lemmas.Str.{encode_ascii, encodes-append, chars-encodes}
use Rattle.token_trees.specs.declared.token.Delimiter.TheVariants.{Parenthesis, Brace, Bracket}
use Rattle.token_trees.specs.declared.token.Spacing.{Spacing}
use Rattle.token_trees.specs.declared.token.Spacing.TheVariants.{Alone, Joint}
use Rattle.token_trees.specs.Token.{text, digits}
use Rattle.token_trees.specs.Text.{Piece, name, sign, constant, opens, closes, escaped, spelling}
use Rattle.unicode_ident.specs.Ident.{is_xid_continue}
use Rattle.rust_tokens.specs.Front.{name_len, begins_name, is_raw_rest, name_span, is_punctuation, spacing_of, body, string_front, bracket, front}
use Rattle.rust_tokens.proofs.Bodies.{eqb_no}
use Rattle.rust_tokens.proofs.Readings.{same_front}
use Rattle.rust_tokens.proofs.Whites.{space_no_start, space_no_continue, hash_no_continue}
use Rattle.rust_tokens.proofs.Printing.{scalars_append, scalars_drop, scalars_take, body_text, spelled, spelled_all, spelled_all_scalars, spelled_body}
use lib.Utf8.{scalar, scalars}

-- nothing follows, or a space
abbrev pub EndsAt : List ℕ → Type 0
EndsAt [] = Unit {0}
EndsAt (c ∷ t) = c ≡ 32

abbrev pub SignFits : Spacing → ℕ → List ℕ → Type 0
SignFits Alone c t = EndsAt t
SignFits Joint c t = spacing_of c t ≡ Joint

-- what may follow a token whose first character is c
abbrev pub Fits : Piece → ℕ → List ℕ → Type 0
Fits (name _) c t = EndsAt t
Fits (sign _ j) c t = SignFits j c t
Fits (constant _) c t = EndsAt t
Fits (opens _) c t = EndsAt t
Fits (closes _) c t = EndsAt t

pub record Printed (x : Piece) (c : ℕ) : Type 0 where
  pub more : List ℕ
  pub bytes : encode_utf8_all (c ∷ more) ≡ spelling x
  pub scalar_values : scalars (c ∷ more) ≡ true
  pub reads : (t : List ℕ) → Fits x c t → front (c ∷ (more ++ t)) ≡ Some (x, length more + 1)

abbrev Read : Type 0
Read = Option (Piece × ℕ)

cond_true : (b : Bool) (x y : Read) → b ≡ true → cond b x y ≡ x
cond_true b x y h = ap (λ c. cond c x y) h

cond_false : (b : Bool) (x y : Read) → b ≡ false → cond b x y ≡ y
cond_false b x y h = ap (λ c. cond c x y) h

abbrev as_digits : ℕ → List ℕ → ℕ → Read
as_digits c ts k = Some (constant (digits (encode_utf8_all (take (k + 1) (c ∷ ts)))), k + 1)

abbrev as_name : ℕ → List ℕ → ℕ → Read
as_name c ts n = Some (name (encode_utf8_all (take n (c ∷ ts))), n)

abbrev as_sign : ℕ → List ℕ → Read
as_sign c ts = Some (sign c (spacing_of c ts), 1)

abbrev no_sign : ℕ → List ℕ → Read
no_sign c ts = cond (begins_name c) (as_name c ts (name_span c ts)) (bracket c)

abbrev no_string : ℕ → List ℕ → Read
no_string c ts = cond (is_punctuation c) (as_sign c ts) (no_sign c ts)

abbrev no_digit : ℕ → List ℕ → Read
no_digit c ts = cond (eqb c 34) (string_front ts) (no_string c ts)

-- Identifier characters

name_len_end : (t : List ℕ) → EndsAt t → name_len t ≡ 0
name_len_end [] h = refl
name_len_end (c ∷ t) h = ap (λ b. cond b (name_len t + 1) 0) (ap is_xid_continue h ∙ space_no_continue)

name_take_case : (c : ℕ) (cs t : List ℕ) (b : Bool) → is_xid_continue c ≡ b → EndsAt t → name_len (take (name_len cs) cs ++ t) ≡ name_len cs
    → name_len (take (cond b (name_len cs + 1) 0) (c ∷ cs) ++ t) ≡ cond b (name_len cs + 1) 0
name_take_case c cs t true e f h =
    ap (λ n. name_len (take n (c ∷ cs) ++ t)) (add-one (name_len cs))
    ∙ ap (λ b. cond b (name_len (take (name_len cs) cs ++ t) + 1) 0) e ∙ ap (λ n. n + 1) h
name_take_case c cs t false e f h = name_len_end t f

name_len_take : (cs t : List ℕ) → EndsAt t → name_len (take (name_len cs) cs ++ t) ≡ name_len cs
name_len_take [] t f = name_len_end t f
name_len_take (c ∷ cs) t f = name_take_case c cs t (is_xid_continue c) refl f (name_len_take cs t f)

name_within_case : (cs : List ℕ) (b : Bool) → name_len cs ≤ length cs → cond b (name_len cs + 1) 0 ≤ suc (length cs)
name_within_case cs true h = omega arith
name_within_case cs false h = omega arith

name_within : (cs : List ℕ) → name_len cs ≤ length cs
name_within [] = omega arith
name_within (c ∷ cs) = name_within_case cs (is_xid_continue c) (name_within cs)

take_twice : (m : ℕ) (cs t : List ℕ) → m ≤ length cs → take m (take m cs ++ t) ≡ take m cs
take_twice zero cs t h = refl
take_twice (suc m) [] t h = absurd (omega arith)
take_twice (suc m) (c ∷ cs) t h = ap (λ l. c ∷ l) (take_twice m cs t (omega arith))

take_next : (m c : ℕ) (cs : List ℕ) → take (m + 1) (c ∷ cs) ≡ c ∷ take m cs
take_next m c cs = ap (λ n. take n (c ∷ cs)) (add-one m)

own_chars : (cs t : List ℕ) → take (name_len cs) (take (name_len cs) cs ++ t) ≡ take (name_len cs) cs
own_chars cs t = take_twice (name_len cs) cs t (name_within cs)

own_length : (cs : List ℕ) → length (take (name_len cs) cs) ≡ name_len cs
own_length cs = length-take-le (name_len cs) cs (name_within cs)

head_scalars : (c : ℕ) (cs ds : List ℕ) → scalars (c ∷ cs) ≡ true → scalars ds ≡ true → scalars (c ∷ ds) ≡ true
head_scalars c cs ds h k = ap (λ b. b && scalars ds) (and_parts (scalar c) (scalars cs) h).0 ∙ k

-- Numbers

digits_printed : (c : ℕ) (cs : List ℕ) → scalars (c ∷ cs) ≡ true → is_ascii_digit c ≡ true → Printed (constant (digits (encode_utf8_all (take (name_len cs + 1) (c ∷ cs))))) c
digits_printed c cs h d =
    let m = name_len cs in
    let rest = take m cs in
    record {
      more = rest;
      bytes = ap encode_utf8_all (sym (take_next m c cs));
      scalar_values = head_scalars c cs rest h (scalars_take m cs (and_parts (scalar c) (scalars cs) h).1);
      reads = λ t f.
          cond_true (is_ascii_digit c) (as_digits c (rest ++ t) (name_len (rest ++ t))) (no_digit c (rest ++ t)) d
          ∙ ap (as_digits c (rest ++ t)) (name_len_take cs t f)
          ∙ ap (λ l. Some (constant (digits (encode_utf8_all l)), m + 1)) (take_next m c (rest ++ t) ∙ ap (λ l. c ∷ l) (own_chars cs t) ∙ sym (take_next m c cs))
          ∙ ap (λ n. Some (constant (digits (encode_utf8_all (take (m + 1) (c ∷ cs)))), n + 1)) (sym (own_length cs));
    }

-- Identifiers

raw_end : (t : List ℕ) → EndsAt t → is_raw_rest t ≡ false
raw_end [] h = refl
raw_end (c ∷ []) h = refl
raw_end (c ∷ d ∷ t) h = ap (λ x. (eqb x 35) && begins_name d) h

raw_head : (d : ℕ) (rest : List ℕ) → (d ≡ 35 → ⊥) → is_raw_rest (d ∷ rest) ≡ false
raw_head d [] h = refl
raw_head d (e ∷ rest) h = ap (λ b. b && begins_name e) (eqb_no d 35 h)

raw_kept_case : (d : ℕ) (ds t : List ℕ) (b : Bool) → is_xid_continue d ≡ b → EndsAt t → is_raw_rest (take (cond b (name_len ds + 1) 0) (d ∷ ds) ++ t) ≡ false
raw_kept_case d ds t true e f =
    let apart : d ≡ 35 → ⊥ = λ k. (let bad : true ≡ false = sym e ∙ ap is_xid_continue k ∙ hash_no_continue in cc) in
    ap (λ l. is_raw_rest (l ++ t)) (take_next (name_len ds) d ds) ∙ raw_head d (take (name_len ds) ds ++ t) apart
raw_kept_case d ds t false e f = raw_end t f

raw_kept : (cs t : List ℕ) → EndsAt t → is_raw_rest (take (name_len cs) cs ++ t) ≡ false
raw_kept [] t f = raw_end t f
raw_kept (d ∷ ds) t f = raw_kept_case d ds t (is_xid_continue d) refl f

and_false : (b c : Bool) → c ≡ false → (b && c) ≡ false
and_false true c h = h
and_false false c h = refl

-- the tests that come before an identifier's
record IsName (c : ℕ) : Type 0 where
  pub digit : is_ascii_digit c ≡ false
  pub quote : eqb c 34 ≡ false
  pub mark : is_punctuation c ≡ false
  pub begins : begins_name c ≡ true

name_front : (c : ℕ) (ts : List ℕ) → IsName c → front (c ∷ ts) ≡ as_name c ts (name_span c ts)
name_front c ts h =
    cond_false (is_ascii_digit c) (as_digits c ts (name_len ts)) (no_digit c ts) h.digit
    ∙ cond_false (eqb c 34) (string_front ts) (no_string c ts) h.quote
    ∙ cond_false (is_punctuation c) (as_sign c ts) (no_sign c ts) h.mark
    ∙ cond_true (begins_name c) (as_name c ts (name_span c ts)) (bracket c) h.begins

plain_name : (c : ℕ) (cs : List ℕ) → scalars (c ∷ cs) ≡ true → IsName c → ((eqb c 114) && is_raw_rest cs) ≡ false → Printed (name (encode_utf8_all (take (name_span c cs) (c ∷ cs)))) c
plain_name c cs h i raw =
    let m = name_len cs in
    let rest = take m cs in
    let span : name_span c cs ≡ m + 1 = ap (λ b. cond b (name_len (drop 2 cs) + 3) (name_len cs + 1)) raw in
    let whole : take (name_span c cs) (c ∷ cs) ≡ c ∷ rest = ap (λ n. take n (c ∷ cs)) span ∙ take_next m c cs in
    record {
      more = rest;
      bytes = ap encode_utf8_all (sym whole);
      scalar_values = head_scalars c cs rest h (scalars_take m cs (and_parts (scalar c) (scalars cs) h).1);
      reads = λ t f.
          let again : name_span c (rest ++ t) ≡ m + 1 =
          ap (λ b. cond b (name_len (drop 2 (rest ++ t)) + 3) (name_len (rest ++ t) + 1)) (and_false (eqb c 114) (is_raw_rest (rest ++ t)) (raw_kept cs t f))
          ∙ ap (λ n. n + 1) (name_len_take cs t f) in
          name_front c (rest ++ t) i ∙ ap (as_name c (rest ++ t)) again
          ∙ ap (λ l. Some (name (encode_utf8_all l), m + 1)) (take_next m c (rest ++ t) ∙ ap (λ l. c ∷ l) (own_chars cs t) ∙ sym whole)
          ∙ ap (λ n. Some (name (encode_utf8_all (take (name_span c cs) (c ∷ cs))), n + 1)) (sym (own_length cs));
    }

take_three : (m c h e : ℕ) (es : List ℕ) → take (m + 3) (c ∷ h ∷ e ∷ es) ≡ c ∷ h ∷ e ∷ take m es
take_three m c h e es = let k : m + 3 ≡ suc (suc (suc m)) = omega arith in ap (λ n. take n (c ∷ h ∷ e ∷ es)) k

raw_name : (c : ℕ) (cs : List ℕ) → scalars (c ∷ cs) ≡ true → IsName c → ((eqb c 114) && is_raw_rest cs) ≡ true → Printed (name (encode_utf8_all (take (name_span c cs) (c ∷ cs)))) c
raw_name c [] h i raw = absurd (let p = and_parts (eqb c 114) false raw in let bad = p.1 in cc)
raw_name c (x ∷ []) h i raw = absurd (let p = and_parts (eqb c 114) false raw in let bad = p.1 in cc)
raw_name c (x ∷ e ∷ es) h i raw =
    let m = name_len es in
    let rest = take m es in
    let span : name_span c (x ∷ e ∷ es) ≡ m + 3 = ap (λ b. cond b (name_len es + 3) (name_len (x ∷ e ∷ es) + 1)) raw in
    let whole : take (name_span c (x ∷ e ∷ es)) (c ∷ x ∷ e ∷ es) ≡ c ∷ x ∷ e ∷ rest = ap (λ n. take n (c ∷ x ∷ e ∷ es)) span ∙ take_three m c x e es in
    let pc = and_parts (scalar c) (scalars (x ∷ e ∷ es)) h in
    let px = and_parts (scalar x) (scalars (e ∷ es)) pc.1 in
    let pe = and_parts (scalar e) (scalars es) px.1 in
    record {
      more = x ∷ e ∷ rest;
      bytes = ap encode_utf8_all (sym whole);
      scalar_values = head_scalars c (x ∷ e ∷ es) (x ∷ e ∷ rest) h (head_scalars x (e ∷ es) (e ∷ rest) pc.1 (head_scalars e es rest px.1 (scalars_take m es pe.1)));
      reads = λ t f.
          let again : name_span c (x ∷ e ∷ (rest ++ t)) ≡ m + 3 =
          ap (λ b. cond b (name_len (rest ++ t) + 3) (name_len (x ∷ e ∷ (rest ++ t)) + 1)) raw ∙ ap (λ n. n + 3) (name_len_take es t f) in
          let size : m + 3 ≡ length (x ∷ e ∷ rest) + 1 = omega (arith, own_length es) in
          name_front c (x ∷ e ∷ (rest ++ t)) i ∙ ap (as_name c (x ∷ e ∷ (rest ++ t))) again
          ∙ ap (λ l. Some (name (encode_utf8_all l), m + 3)) (take_three m c x e (rest ++ t) ∙ ap (λ l. c ∷ x ∷ e ∷ l) (own_chars es t) ∙ sym whole)
          ∙ ap (λ n. Some (name (encode_utf8_all (take (name_span c (x ∷ e ∷ es)) (c ∷ x ∷ e ∷ es))), n)) size;
    }

name_printed : (c : ℕ) (cs : List ℕ) → scalars (c ∷ cs) ≡ true → IsName c → (b : Bool) → ((eqb c 114) && is_raw_rest cs) ≡ b → Printed (name (encode_utf8_all (take (name_span c cs) (c ∷ cs)))) c
name_printed c cs h i true raw = raw_name c cs h i raw
name_printed c cs h i false raw = plain_name c cs h i raw

-- Punctuation

space_alone : (c : ℕ) (t : List ℕ) → EndsAt t → spacing_of c t ≡ Alone
space_alone c [] h = refl
space_alone c (d ∷ t) h =
    ap (λ x. cond (is_punctuation x || ((eqb c 39) && begins_name x)) Joint Alone) h
    ∙ ap (λ b. cond b Joint Alone) (and_false (eqb c 39) (begins_name 32) space_no_start)

sign_fits : (j : Spacing) (c : ℕ) (t : List ℕ) → SignFits j c t → spacing_of c t ≡ j
sign_fits Alone c t h = space_alone c t h
sign_fits Joint c t h = h

sign_printed : (c : ℕ) (cs : List ℕ) → scalars (c ∷ cs) ≡ true → is_ascii_digit c ≡ false → eqb c 34 ≡ false → is_punctuation c ≡ true → Printed (sign c (spacing_of c cs)) c
sign_printed c cs h d q p =
    record {
      more = [];
      bytes = append-nil (encode_utf8 c);
      scalar_values = head_scalars c cs [] h refl;
      reads = λ t f.
          cond_false (is_ascii_digit c) (as_digits c t (name_len t)) (no_digit c t) d
          ∙ cond_false (eqb c 34) (string_front t) (no_string c t) q
          ∙ cond_true (is_punctuation c) (as_sign c t) (no_sign c t) p
          ∙ ap (λ j. Some (sign c j, 1)) (sign_fits (spacing_of c cs) c t f);
    }

-- Brackets

record IsBracket (c : ℕ) (x : Piece) (n : ℕ) : Type 0 where
  pub bytes : encode_utf8_all (c ∷ []) ≡ spelling x
  pub one : n ≡ 1
  pub ends : (t : List ℕ) → Fits x c t → Unit {0}

bracket_case : (c k : ℕ) (p x : Piece) (n : ℕ) (r : Read) → spelling p ≡ k ∷ [] → k < 128 → (r ≡ Some (x, n) → IsBracket c x n) → cond (eqb c k) (Some (p, 1)) r ≡ Some (x, n) → IsBracket c x n
bracket_case c k p x n r s low h e =
    elim (eqb_tells c k) [
      | inl same ↦
          let found = same_front (p, 1) (x, n) (sym (cond_true (eqb c k) (Some (p, 1)) r same.0) ∙ e) in
          record {
            bytes = append-nil (encode_utf8 c) ∙ ap encode_utf8 same.1 ∙ encode_ascii k low ∙ sym s ∙ ap spelling found.0;
            one = sym found.1;
            ends = λ t f. tt;
          }
      | inr other ↦ h (sym (cond_false (eqb c k) (Some (p, 1)) r other.0) ∙ e)
    ]

is_bracket : (c : ℕ) (x : Piece) (n : ℕ) → bracket c ≡ Some (x, n) → IsBracket c x n
is_bracket c x n =
    bracket_case c 40 (opens Parenthesis) x n _ refl (omega arith)
    (bracket_case c 41 (closes Parenthesis) x n _ refl (omega arith)
    (bracket_case c 91 (opens Bracket) x n _ refl (omega arith)
    (bracket_case c 93 (closes Bracket) x n _ refl (omega arith)
    (bracket_case c 123 (opens Brace) x n _ refl (omega arith)
    (bracket_case c 125 (closes Brace) x n _ refl (omega arith) (λ e. absurd (cc)))))))

bracket_printed : (c : ℕ) (cs : List ℕ) (x : Piece) (n : ℕ) → scalars (c ∷ cs) ≡ true → is_ascii_digit c ≡ false → eqb c 34 ≡ false → is_punctuation c ≡ false → begins_name c ≡ false → bracket c ≡ Some (x, n) → Printed x c
bracket_printed c cs x n h d q p b e =
    let i = is_bracket c x n e in
    record {
      more = [];
      bytes = i.bytes;
      scalar_values = head_scalars c cs [] h refl;
      reads = λ t f.
          cond_false (is_ascii_digit c) (as_digits c t (name_len t)) (no_digit c t) d
          ∙ cond_false (eqb c 34) (string_front t) (no_string c t) q
          ∙ cond_false (is_punctuation c) (as_sign c t) (no_sign c t) p
          ∙ cond_false (begins_name c) (as_name c t (name_span c t)) (bracket c) b
          ∙ e ∙ ap (λ k. Some (x, k)) i.one;
    }

-- String literals

map_found : (f : List ℕ × ℕ → Piece × ℕ) (r : Option (List ℕ × ℕ)) (q : Piece × ℕ) → option_map f r ≡ Some q → (p : List ℕ × ℕ) × (r ≡ Some p) × ((f p).0 ≡ q.0)
map_found f None q h = absurd (cc)
map_found f (Some p) q h = (p, refl, (same_front (f p) q h).0)

drop_past : (xs : List ℕ) (y : ℕ) (ys : List ℕ) → drop (suc (length xs)) (xs ++ y ∷ ys) ≡ ys
drop_past [] y ys = refl
drop_past (x ∷ xs) y ys = drop_past xs y ys

pub drop_seam : (xs : List ℕ) (y : ℕ) (ys : List ℕ) → drop (length xs + 1) (xs ++ y ∷ ys) ≡ ys
drop_seam xs y ys = ap (λ n. drop n (xs ++ y ∷ ys)) (add-one (length xs)) ∙ drop_past xs y ys

abbrev found_string : List ℕ → List ℕ × ℕ → Piece × ℕ
found_string cs r =
    let after = drop r.1 cs in
    (constant (text r.0 (encode_utf8_all (take (name_len after) after))), r.1 + name_len after + 1)

string_printed : (cs : List ℕ) (x : Piece) (n : ℕ) → scalars cs ≡ true → string_front cs ≡ Some (x, n) → Printed x 34
string_printed cs x n h e =
    let found = map_found (found_string cs) (body 0 cs) (x, n) e in
    let v = found.0.0 in
    let after = drop found.0.1 cs in
    let suffix = take (name_len after) after in
    let t = body_text cs 0 h v found.0.1 found.1 in
    let vs = t.codes in
    let flat = flat_map spelled vs in
    let quote : encode_utf8_all (34 ∷ suffix) ≡ 34 ∷ encode_utf8_all suffix = ap (λ l. l ++ encode_utf8_all suffix) (encode_ascii 34 (omega arith)) in
    let value : flat_map escaped vs ≡ flat_map escaped (chars v) = ap (flat_map escaped) (sym (ap chars t.bytes ∙ chars-encodes vs t.scalar_values)) in
    let spelt : encode_utf8_all (34 ∷ (flat ++ 34 ∷ suffix)) ≡ spelling (constant (text v (encode_utf8_all suffix))) =
    ap (λ l. l ++ encode_utf8_all (flat ++ 34 ∷ suffix)) (encode_ascii 34 (omega arith))
    ∙ ap (λ l. 34 ∷ l) (encodes-append flat (34 ∷ suffix) ∙ ap (λ l. l ++ encode_utf8_all (34 ∷ suffix)) (spelled_all vs ∙ value) ∙ ap (λ l. flat_map escaped (chars v) ++ l) quote) in
    let P : Piece → Type 0 = λ y. Printed y 34 in
    subst P found.2 (record {
      more = flat ++ 34 ∷ suffix;
      bytes = spelt;
      scalar_values = scalars_append flat (34 ∷ suffix) (spelled_all_scalars vs t.scalar_values) (scalars_take (name_len after) after (scalars_drop found.0.1 cs h));
      reads = λ s f.
          let tail = suffix ++ s in
          let past : drop (length flat + 1) (flat ++ 34 ∷ tail) ≡ tail = drop_seam flat 34 tail in
          let size : length flat + 1 + name_len after + 1 ≡ length (flat ++ 34 ∷ suffix) + 1 = omega (arith, length-append flat (34 ∷ suffix), own_length after) in
          ap string_front (append_assoc flat (34 ∷ suffix) s)
          ∙ ap (option_map (found_string (flat ++ 34 ∷ tail))) (spelled_body vs tail)
          ∙ ap (λ q. Some (constant (text (encode_utf8_all vs) (encode_utf8_all (take (name_len q) q))), length flat + 1 + name_len q + 1)) past
          ∙ ap (λ k. Some (constant (text (encode_utf8_all vs) (encode_utf8_all (take k tail))), length flat + 1 + k + 1)) (name_len_take after s f)
          ∙ ap (λ q. Some (constant (text (encode_utf8_all vs) (encode_utf8_all q)), length flat + 1 + name_len after + 1)) (own_chars after s)
          ∙ ap (λ w. Some (constant (text w (encode_utf8_all suffix)), length flat + 1 + name_len after + 1)) (sym t.bytes)
          ∙ ap (λ k. Some (constant (text v (encode_utf8_all suffix)), k)) size;
    })

-- All tokens

abbrev same_piece : (c : ℕ) (y x : Piece) (k n : ℕ) → ◌≡◌ {A = Read} (Some (y, k)) (Some (x, n)) → Printed y c → Printed x c
same_piece c y x k n e p = let P : Piece → Type 0 = λ z. Printed z c in subst P (same_front (y, k) (x, n) e).0 p

printed_name : (c : ℕ) (cs : List ℕ) (x : Piece) (n : ℕ) (b : Bool) → begins_name c ≡ b → scalars (c ∷ cs) ≡ true → is_ascii_digit c ≡ false → eqb c 34 ≡ false → is_punctuation c ≡ false → no_sign c cs ≡ Some (x, n) → Printed x c
printed_name c cs x n true k h d q p e =
    same_piece c _ x _ n (sym (cond_true (begins_name c) (as_name c cs (name_span c cs)) (bracket c) k) ∙ e)
    (name_printed c cs h (record { digit = d; quote = q; mark = p; begins = k }) ((eqb c 114) && is_raw_rest cs) refl)
printed_name c cs x n false k h d q p e =
    bracket_printed c cs x n h d q p k (sym (cond_false (begins_name c) (as_name c cs (name_span c cs)) (bracket c) k) ∙ e)

printed_sign : (c : ℕ) (cs : List ℕ) (x : Piece) (n : ℕ) (b : Bool) → is_punctuation c ≡ b → scalars (c ∷ cs) ≡ true → is_ascii_digit c ≡ false → eqb c 34 ≡ false → no_string c cs ≡ Some (x, n) → Printed x c
printed_sign c cs x n true k h d q e =
    same_piece c (sign c (spacing_of c cs)) x 1 n (sym (cond_true (is_punctuation c) (as_sign c cs) (no_sign c cs) k) ∙ e) (sign_printed c cs h d q k)
printed_sign c cs x n false k h d q e =
    printed_name c cs x n (begins_name c) refl h d q k (sym (cond_false (is_punctuation c) (as_sign c cs) (no_sign c cs) k) ∙ e)

printed_string : (c : ℕ) (cs : List ℕ) (x : Piece) (n : ℕ) → scalars (c ∷ cs) ≡ true → is_ascii_digit c ≡ false → no_digit c cs ≡ Some (x, n) → Printed x c
printed_string c cs x n h d e =
    elim (eqb_tells c 34) [
      | inl same ↦
          let P : ℕ → Type 0 = Printed x in
          subst P (sym same.1) (string_printed cs x n (and_parts (scalar c) (scalars cs) h).1 (sym (cond_true (eqb c 34) (string_front cs) (no_string c cs) same.0) ∙ e))
      | inr other ↦ printed_sign c cs x n (is_punctuation c) refl h d other.0 (sym (cond_false (eqb c 34) (string_front cs) (no_string c cs) other.0) ∙ e)
    ]

printed_digit : (c : ℕ) (cs : List ℕ) (x : Piece) (n : ℕ) (b : Bool) → is_ascii_digit c ≡ b → scalars (c ∷ cs) ≡ true → front (c ∷ cs) ≡ Some (x, n) → Printed x c
printed_digit c cs x n true k h e =
    same_piece c _ x _ n (sym (cond_true (is_ascii_digit c) (as_digits c cs (name_len cs)) (no_digit c cs) k) ∙ e) (digits_printed c cs h k)
printed_digit c cs x n false k h e =
    printed_string c cs x n h k (sym (cond_false (is_ascii_digit c) (as_digits c cs (name_len cs)) (no_digit c cs) k) ∙ e)

-- a token that stands at the front of characters
pub printed : (c : ℕ) (cs : List ℕ) (x : Piece) (n : ℕ) → scalars (c ∷ cs) ≡ true → front (c ∷ cs) ≡ Some (x, n) → Printed x c
printed c cs x n h e = printed_digit c cs x n (is_ascii_digit c) refl h e

-- a punctuation character's own code, its spacing and its length
pub record IsSign (c : ℕ) (cs : List ℕ) (s : ℕ) (j : Spacing) (n : ℕ) : Type 0 where
  pub same : c ≡ s
  pub spacing : spacing_of c cs ≡ j
  pub one : n ≡ 1

abbrev NoSign : Read → Type 0
NoSign r = (s n : ℕ) (j : Spacing) → r ≡ Some (sign s j, n) → ⊥

other_piece : (p : Piece) (m : ℕ) → ((s : ℕ) (j : Spacing) → p ≡ sign s j → ⊥) → NoSign (Some (p, m))
other_piece p m h s n j e = h s j (same_front (p, m) (sign s j, n) e).0

nothing : NoSign None
nothing s n j e = cc

either_no : (b : Bool) (x y : Read) → NoSign x → NoSign y → NoSign (cond b x y)
either_no true x y h k = h
either_no false x y h k = k

string_no : (cs : List ℕ) (r : Option (List ℕ × ℕ)) → NoSign (option_map (found_string cs) r)
string_no cs None = nothing
string_no cs (Some q) = other_piece _ _ (λ s j k. cc)

bracket_no : (c : ℕ) → NoSign (bracket c)
bracket_no c =
    either_no (eqb c 40) _ _ (other_piece _ _ (λ s j k. cc)) (either_no (eqb c 41) _ _ (other_piece _ _ (λ s j k. cc)) (either_no (eqb c 91) _ _ (other_piece _ _ (λ s j k. cc))
    (either_no (eqb c 93) _ _ (other_piece _ _ (λ s j k. cc)) (either_no (eqb c 123) _ _ (other_piece _ _ (λ s j k. cc)) (either_no (eqb c 125) _ _ (other_piece _ _ (λ s j k. cc)) nothing)))))

cond_sign : (b : Bool) (x y : Read) (c : ℕ) (cs : List ℕ) (s : ℕ) (j : Spacing) (n : ℕ) → NoSign x → (y ≡ Some (sign s j, n) → IsSign c cs s j n) → cond b x y ≡ Some (sign s j, n) → IsSign c cs s j n
cond_sign true x y c cs s j n h k e = absurd (h s n j e)
cond_sign false x y c cs s j n h k e = k e

same_sign : (c s : ℕ) (i j : Spacing) → sign c i ≡ sign s j → (c ≡ s) × (i ≡ j)
same_sign c s i j h = (cc, cc)

sign_case : (b : Bool) (c : ℕ) (cs : List ℕ) (s : ℕ) (j : Spacing) (n : ℕ) → cond b (as_sign c cs) (no_sign c cs) ≡ Some (sign s j, n) → IsSign c cs s j n
sign_case true c cs s j n e =
    let both = same_front (sign c (spacing_of c cs), 1) (sign s j, n) e in
    let parts = same_sign c s (spacing_of c cs) j both.0 in
    record { same = parts.0; spacing = parts.1; one = sym both.1 }
sign_case false c cs s j n e =
    absurd (either_no (begins_name c) (as_name c cs (name_span c cs)) (bracket c) (other_piece _ _ (λ s j k. cc)) (bracket_no c) s n j e)

pub sign_joint : (c : ℕ) (cs : List ℕ) (s : ℕ) (j : Spacing) (n : ℕ) → front (c ∷ cs) ≡ Some (sign s j, n) → IsSign c cs s j n
sign_joint c cs s j n =
    cond_sign (is_ascii_digit c) (as_digits c cs (name_len cs)) (no_digit c cs) c cs s j n (other_piece _ _ (λ s j k. cc))
    (cond_sign (eqb c 34) (string_front cs) (no_string c cs) c cs s j n (string_no cs (body 0 cs)) (sign_case (is_punctuation c) c cs s j n))
