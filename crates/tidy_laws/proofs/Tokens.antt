-- Each token stays as it is, and is read again before whatever may follow it then.
use Rattle.std.proofs.Common.{◌≡◌, ◌+◌, ◌<◌, ℕ, suc, Bool, true, false, List, [], ◌∷◌, ◌++◌, cond, eqb, ◌&&◌, take, drop, length, Option, Some, None, inl, inr, refl, ap, sym, subst, ◌∙◌, append_assoc, append-nil, add-one, arith, encode_utf8, encode_utf8_all, length-append}
use Rattle.std.specs.Prelude.{option_map, flat_map, if◌then◌else◌}
use Rattle.std.specs.Char.{is_ascii_digit}
use Rattle.std.specs.Str.{chars}
use Rattle.std.proofs.lemmas.Bool.{and_parts, eqb-true}
use Rattle.std.proofs.lemmas.Bool.Decides.{eqb_tells}
use Rattle.std.proofs.lemmas.Str.{encode_ascii, encodes-append, chars-encodes}
use Rattle.token_trees.specs.declared.token.Delimiter.TheVariants.{Parenthesis, Brace, Bracket}
use Rattle.token_trees.specs.Token.{text, digits}
use Rattle.token_trees.specs.Text.{Piece, name, sign, constant, opens, closes, escaped, spelling}
use Rattle.unicode_ident.specs.Ident.{is_xid_continue}
use Rattle.rust_tokens.specs.Front.{name_len, begins_name, is_raw_rest, name_span, is_punctuation, spacing_of, body, string_front, bracket, front}
use Rattle.rust_tokens.proofs.Bodies.{eqb_no}
use Rattle.rust_tokens.proofs.Readings.{same_front}
use Rattle.rust_tokens.proofs.Stable.{drop_seam}
use Rattle.rust_tokens.proofs.Printing.{scalars_append, scalars_drop, scalars_take, body_text, spelled, spelled_all, spelled_all_scalars, spelled_body}
use Rattle.tidy_texts.specs.declared.spot.Before.{Before}
use Rattle.tidy_texts.specs.declared.spot.Before.TheVariants.{Open, Name, Other, Literal, Escape}
use Rattle.tidy_texts.specs.Tidy.{before_of, is_inside, spot}
use Rattle.tidy_laws.specs.Laws.{bare}
use Rattle.tidy_laws.proofs.Classes.{IsStop, words_apart, starts_apart, digits_apart, differs, no_blank, stands_as_name, stands_outside}
use Rattle.tidy_laws.proofs.Codes.{codes_from, step}
use lib.Utf8.{scalar, scalars}

-- nothing follows, or what goes on with no name
abbrev pub Stops : List ℕ → Type 0
Stops [] = Unit {0}
Stops (d ∷ t) = IsStop d

-- what may follow a token
abbrev pub MayFollow : Piece → List ℕ → Type 0
MayFollow (name _) t = Stops t
MayFollow (constant _) t = Stops t
MayFollow (sign _ _) t = Unit {0}
MayFollow (opens _) t = Unit {0}
MayFollow (closes _) t = Unit {0}

abbrev pub is_closed : Before → Bool
is_closed Open = false
is_closed Name = true
is_closed Other = true
is_closed Literal = false
is_closed Escape = false

-- behind names and constants what follows comes at once only if it may
abbrev pub Leaves : Piece → Before → Type 0
Leaves (name _) b = is_closed b ≡ true
Leaves (constant _) b = is_closed b ≡ true
Leaves (sign _ _) b = is_inside b ≡ false
Leaves (opens _) b = is_inside b ≡ false
Leaves (closes _) b = is_inside b ≡ false

abbrev Read : Type 0
Read = Option (Piece × ℕ)

-- that token, the spacing aside
abbrev pub Is : Piece → ℕ → Read → Type 0
Is x n r = (y : Piece) × (r ≡ Some (y, n)) × (bare y ≡ bare x)

-- how a token that begins with c is written, and what tidying makes of it
pub record Token (x : Piece) (c : ℕ) : Type 0 where
  pub more : List ℕ
  pub bytes : encode_utf8_all (c ∷ more) ≡ spelling x
  pub scalar_values : scalars (c ∷ more) ≡ true
  pub reads : (t : List ℕ) → MayFollow x t → Is x (length more + 1) (front (c ∷ (more ++ t)))
  pub behind : Before
  pub leaves : Leaves x behind
  pub kept : (t : List ℕ) → codes_from (spot (before_of c) false) (more ++ t) ≡ more ++ codes_from (spot behind false) t

-- ---- tests of `front`

cond_true : (b : Bool) (x y : Read) → b ≡ true → cond b x y ≡ x
cond_true b x y h = ap (λ c. cond c x y) h

cond_false : (b : Bool) (x y : Read) → b ≡ false → cond b x y ≡ y
cond_false b x y h = ap (λ c. cond c x y) h

abbrev as_digits : ℕ → List ℕ → ℕ → Read
as_digits c ts k = Some (constant (digits (encode_utf8_all (take (k + 1) (c ∷ ts)))), k + 1)

abbrev as_name : ℕ → List ℕ → ℕ → Read
as_name c ts n = Some (name (encode_utf8_all (take n (c ∷ ts))), n)

abbrev as_sign : ℕ → List ℕ → Read
as_sign c ts = Some (sign c (spacing_of c ts), 1)

abbrev no_sign : ℕ → List ℕ → Read
no_sign c ts = cond (begins_name c) (as_name c ts (name_span c ts)) (bracket c)

abbrev no_string : ℕ → List ℕ → Read
no_string c ts = cond (is_punctuation c) (as_sign c ts) (no_sign c ts)

abbrev no_digit : ℕ → List ℕ → Read
no_digit c ts = cond (eqb c 34) (string_front ts) (no_string c ts)

-- ---- characters that go on with a name

abbrev GoOn : List ℕ → Type 0
GoOn m = name_len m ≡ length m

go_on_case : (d : ℕ) (m : List ℕ) (b : Bool) → is_xid_continue d ≡ b → cond b (name_len m + 1) 0 ≡ suc (length m) → (is_xid_continue d ≡ true) × GoOn m
go_on_case d m true e h = (e, omega (arith, h))
go_on_case d m false e h = absurd (omega (arith, h))

go_on : (d : ℕ) (m : List ℕ) → GoOn (d ∷ m) → (is_xid_continue d ≡ true) × GoOn m
go_on d m h = go_on_case d m (is_xid_continue d) refl h

take_next : (m c : ℕ) (cs : List ℕ) → take (m + 1) (c ∷ cs) ≡ c ∷ take m cs
take_next m c cs = ap (λ n. take n (c ∷ cs)) (add-one m)

own_case : (d : ℕ) (ds : List ℕ) (b : Bool) → is_xid_continue d ≡ b → GoOn (take (name_len ds) ds) → GoOn (take (cond b (name_len ds + 1) 0) (d ∷ ds))
own_case d ds true e h =
    let m = take (name_len ds) ds in
    let last : name_len m + 1 ≡ suc (length m) = omega (arith, h) in
    let G : List ℕ → Type 0 = GoOn in
    subst G (sym (take_next (name_len ds) d ds)) (ap (λ b. cond b (name_len m + 1) 0) e ∙ last)
own_case d ds false e h = refl

-- those at the front do
own_go_on : (cs : List ℕ) → GoOn (take (name_len cs) cs)
own_go_on [] = refl
own_go_on (d ∷ ds) = own_case d ds (is_xid_continue d) refl (own_go_on ds)

stop_len : (t : List ℕ) → Stops t → name_len t ≡ 0
stop_len [] s = refl
stop_len (d ∷ t) s = ap (λ b. cond b (name_len t + 1) 0) s.word

-- and no more of what follows
len_is : (m t : List ℕ) → GoOn m → Stops t → name_len (m ++ t) ≡ length m
len_is [] t h s = stop_len t s
len_is (d ∷ m) t h s =
    let g = go_on d m h in
    let last : length m + 1 ≡ suc (length m) = omega arith in
    ap (λ b. cond b (name_len (m ++ t) + 1) 0) g.0 ∙ ap (λ n. n + 1) (len_is m t g.1 s) ∙ last

take_own : (m t : List ℕ) → take (length m) (m ++ t) ≡ m
take_own [] t = refl
take_own (d ∷ m) t = ap (λ l. d ∷ l) (take_own m t)

abbrev after_words : Before → List ℕ → Before
after_words b [] = b
after_words b (d ∷ m) = Name

words_behind : (m : List ℕ) → after_words Name m ≡ Name
words_behind [] = refl
words_behind (e ∷ m) = refl

-- they stay
words_kept : (b : Before) → is_inside b ≡ false → (m : List ℕ) → GoOn m → (t : List ℕ) → codes_from (spot b false) (m ++ t) ≡ m ++ codes_from (spot (after_words b m) false) t
words_kept b o [] h t = refl
words_kept b o (d ∷ m) h t =
    let g = go_on d m h in
    step b o false d (m ++ t) (no_blank is_xid_continue words_apart d g.0)
    ∙ ap (λ a. d ∷ codes_from (spot a false) (m ++ t)) (stands_as_name is_xid_continue words_apart d g.0)
    ∙ ap (λ l. d ∷ l) (words_kept Name refl m g.1 t ∙ ap (λ a. m ++ codes_from (spot a false) t) (words_behind m))

-- behind the first character of a name or a number
named_kept : (c : ℕ) → before_of c ≡ Name → (m : List ℕ) → GoOn m → (t : List ℕ) → codes_from (spot (before_of c) false) (m ++ t) ≡ m ++ codes_from (spot Name false) t
named_kept c e m h t =
    ap (λ a. codes_from (spot a false) (m ++ t)) e ∙ words_kept Name refl m h t ∙ ap (λ a. m ++ codes_from (spot a false) t) (words_behind m)

head_scalars : (c : ℕ) (cs ds : List ℕ) → scalars (c ∷ cs) ≡ true → scalars ds ≡ true → scalars (c ∷ ds) ≡ true
head_scalars c cs ds h k = ap (λ b. b && scalars ds) (and_parts (scalar c) (scalars cs) h).0 ∙ k

rest_scalars : (c : ℕ) (cs : List ℕ) → scalars (c ∷ cs) ≡ true → scalars cs ≡ true
rest_scalars c cs h = (and_parts (scalar c) (scalars cs) h).1

-- ---- numbers

digits_token : (c : ℕ) (cs : List ℕ) → scalars (c ∷ cs) ≡ true → is_ascii_digit c ≡ true → Token (constant (digits (encode_utf8_all (take (name_len cs + 1) (c ∷ cs))))) c
digits_token c cs h d =
    let m = take (name_len cs) cs in
    let g = own_go_on cs in
    record {
      more = m;
      bytes = ap encode_utf8_all (sym (take_next (name_len cs) c cs));
      scalar_values = head_scalars c cs m h (scalars_take (name_len cs) cs (rest_scalars c cs h));
      reads = λ t f. (
        constant (digits (encode_utf8_all (take (name_len cs + 1) (c ∷ cs)))),
        cond_true (is_ascii_digit c) (as_digits c (m ++ t) (name_len (m ++ t))) (no_digit c (m ++ t)) d
            ∙ ap (as_digits c (m ++ t)) (len_is m t g f)
            ∙ ap (λ l. Some (constant (digits (encode_utf8_all l)), length m + 1)) (take_next (length m) c (m ++ t) ∙ ap (λ l. c ∷ l) (take_own m t) ∙ sym (take_next (name_len cs) c cs)),
        refl,
      );
      behind = Name;
      leaves = refl;
      kept = named_kept c (stands_as_name is_ascii_digit digits_apart c d) m g;
    }

-- ---- identifiers

raw_stop : (t : List ℕ) → Stops t → is_raw_rest t ≡ false
raw_stop [] s = refl
raw_stop (d ∷ []) s = refl
raw_stop (d ∷ e ∷ t) s = ap (λ b. b && begins_name e) s.hash

raw_words : (d : ℕ) (m : List ℕ) → is_xid_continue d ≡ true → is_raw_rest (d ∷ m) ≡ false
raw_words d [] h = refl
raw_words d (e ∷ m) h =
    let other : eqb d 35 ≡ false = differs is_xid_continue d 35 words_apart.at35 h in
    ap (λ b. b && begins_name e) other

raw_kept : (m t : List ℕ) → GoOn m → Stops t → is_raw_rest (m ++ t) ≡ false
raw_kept [] t g s = raw_stop t s
raw_kept (d ∷ m) t g s = raw_words d (m ++ t) (go_on d m g).0

and_false : (b c : Bool) → c ≡ false → (b && c) ≡ false
and_false true c h = h
and_false false c h = refl

-- the tests that come before an identifier's
record IsName (c : ℕ) : Type 0 where
  pub digit : is_ascii_digit c ≡ false
  pub quote : eqb c 34 ≡ false
  pub mark : is_punctuation c ≡ false
  pub begins : begins_name c ≡ true

name_front : (c : ℕ) (ts : List ℕ) → IsName c → front (c ∷ ts) ≡ as_name c ts (name_span c ts)
name_front c ts h =
    cond_false (is_ascii_digit c) (as_digits c ts (name_len ts)) (no_digit c ts) h.digit
    ∙ cond_false (eqb c 34) (string_front ts) (no_string c ts) h.quote
    ∙ cond_false (is_punctuation c) (as_sign c ts) (no_sign c ts) h.mark
    ∙ cond_true (begins_name c) (as_name c ts (name_span c ts)) (bracket c) h.begins

plain_name : (c : ℕ) (cs : List ℕ) → scalars (c ∷ cs) ≡ true → IsName c → ((eqb c 114) && is_raw_rest cs) ≡ false → Token (name (encode_utf8_all (take (name_span c cs) (c ∷ cs)))) c
plain_name c cs h i raw =
    let m = take (name_len cs) cs in
    let g = own_go_on cs in
    let span : name_span c cs ≡ name_len cs + 1 = ap (λ b. cond b (name_len (drop 2 cs) + 3) (name_len cs + 1)) raw in
    let whole : take (name_span c cs) (c ∷ cs) ≡ c ∷ m = ap (λ n. take n (c ∷ cs)) span ∙ take_next (name_len cs) c cs in
    record {
      more = m;
      bytes = ap encode_utf8_all (sym whole);
      scalar_values = head_scalars c cs m h (scalars_take (name_len cs) cs (rest_scalars c cs h));
      reads = λ t f.
          let again : name_span c (m ++ t) ≡ length m + 1 =
          ap (λ b. cond b (name_len (drop 2 (m ++ t)) + 3) (name_len (m ++ t) + 1)) (and_false (eqb c 114) (is_raw_rest (m ++ t)) (raw_kept m t g f))
          ∙ ap (λ n. n + 1) (len_is m t g f) in (
            name (encode_utf8_all (take (name_span c cs) (c ∷ cs))),
            name_front c (m ++ t) i ∙ ap (as_name c (m ++ t)) again
                ∙ ap (λ l. Some (name (encode_utf8_all l), length m + 1)) (take_next (length m) c (m ++ t) ∙ ap (λ l. c ∷ l) (take_own m t) ∙ sym whole),
            refl,
          );
      behind = Name;
      leaves = refl;
      kept = named_kept c (stands_as_name begins_name starts_apart c i.begins) m g;
    }

take_three : (m c h e : ℕ) (es : List ℕ) → take (m + 3) (c ∷ h ∷ e ∷ es) ≡ c ∷ h ∷ e ∷ take m es
take_three m c h e es = let k : m + 3 ≡ suc (suc (suc m)) = omega arith in ap (λ n. take n (c ∷ h ∷ e ∷ es)) k

raw_chars_kept : (x e : ℕ) → eqb x 35 ≡ true → begins_name e ≡ true → (m : List ℕ) → GoOn m → (t : List ℕ) → codes_from (spot Name false) (x ∷ e ∷ (m ++ t)) ≡ x ∷ e ∷ (m ++ codes_from (spot Name false) t)
raw_chars_kept x e hx he m g t =
    let same : x ≡ 35 = eqb-true x 35 hx in
    step Name refl false x (e ∷ (m ++ t)) (ap (λ y. eqb y 32) same)
    ∙ ap (λ y. x ∷ codes_from (spot (before_of y) false) (e ∷ (m ++ t))) same
    ∙ ap (λ l. x ∷ l) (step Open refl false e (m ++ t) (no_blank begins_name starts_apart e he) ∙ ap (λ l. e ∷ l) (named_kept e (stands_as_name begins_name starts_apart e he) m g t))

raw_name : (c : ℕ) (cs : List ℕ) → scalars (c ∷ cs) ≡ true → IsName c → ((eqb c 114) && is_raw_rest cs) ≡ true → Token (name (encode_utf8_all (take (name_span c cs) (c ∷ cs)))) c
raw_name c [] h i raw = absurd (let p = and_parts (eqb c 114) false raw in let bad = p.1 in cc)
raw_name c (x ∷ []) h i raw = absurd (let p = and_parts (eqb c 114) false raw in let bad = p.1 in cc)
raw_name c (x ∷ e ∷ es) h i raw =
    let m = take (name_len es) es in
    let g = own_go_on es in
    let rest = and_parts (eqb x 35) (begins_name e) (and_parts (eqb c 114) ((eqb x 35) && begins_name e) raw).1 in
    let span : name_span c (x ∷ e ∷ es) ≡ name_len es + 3 = ap (λ b. cond b (name_len es + 3) (name_len (x ∷ e ∷ es) + 1)) raw in
    let whole : take (name_span c (x ∷ e ∷ es)) (c ∷ x ∷ e ∷ es) ≡ c ∷ x ∷ e ∷ m = ap (λ n. take n (c ∷ x ∷ e ∷ es)) span ∙ take_three (name_len es) c x e es in
    let px = rest_scalars c (x ∷ e ∷ es) h in
    let pe = rest_scalars x (e ∷ es) px in
    record {
      more = x ∷ e ∷ m;
      bytes = ap encode_utf8_all (sym whole);
      scalar_values = head_scalars c (x ∷ e ∷ es) (x ∷ e ∷ m) h (head_scalars x (e ∷ es) (e ∷ m) px (head_scalars e es m pe (scalars_take (name_len es) es (rest_scalars e es pe))));
      reads = λ t f.
          let again : name_span c (x ∷ e ∷ (m ++ t)) ≡ length m + 3 =
          ap (λ b. cond b (name_len (m ++ t) + 3) (name_len (x ∷ e ∷ (m ++ t)) + 1)) raw ∙ ap (λ n. n + 3) (len_is m t g f) in
          let size : length m + 3 ≡ length (x ∷ e ∷ m) + 1 = omega arith in (
            name (encode_utf8_all (take (name_span c (x ∷ e ∷ es)) (c ∷ x ∷ e ∷ es))),
            name_front c (x ∷ e ∷ (m ++ t)) i ∙ ap (as_name c (x ∷ e ∷ (m ++ t))) again
                ∙ ap (λ l. Some (name (encode_utf8_all l), length m + 3)) (take_three (length m) c x e (m ++ t) ∙ ap (λ l. c ∷ x ∷ e ∷ l) (take_own m t) ∙ sym whole)
                ∙ ap (λ n. Some (name (encode_utf8_all (take (name_span c (x ∷ e ∷ es)) (c ∷ x ∷ e ∷ es))), n)) size,
            refl,
          );
      behind = Name;
      leaves = refl;
      kept = λ t. ap (λ a. codes_from (spot a false) (x ∷ e ∷ (m ++ t))) (stands_as_name begins_name starts_apart c i.begins) ∙ raw_chars_kept x e rest.0 rest.1 m g t;
    }

name_token : (c : ℕ) (cs : List ℕ) → scalars (c ∷ cs) ≡ true → IsName c → (b : Bool) → ((eqb c 114) && is_raw_rest cs) ≡ b → Token (name (encode_utf8_all (take (name_span c cs) (c ∷ cs)))) c
name_token c cs h i true raw = raw_name c cs h i raw
name_token c cs h i false raw = plain_name c cs h i raw

-- ---- punctuation and brackets

sign_token : (c : ℕ) (cs : List ℕ) → scalars (c ∷ cs) ≡ true → is_ascii_digit c ≡ false → eqb c 34 ≡ false → is_punctuation c ≡ true → Token (sign c (spacing_of c cs)) c
sign_token c cs h d q p = record {
  more = [];
  bytes = append-nil (encode_utf8 c);
  scalar_values = head_scalars c cs [] h refl;
  reads = λ t f. (
    sign c (spacing_of c t),
    cond_false (is_ascii_digit c) (as_digits c t (name_len t)) (no_digit c t) d
        ∙ cond_false (eqb c 34) (string_front t) (no_string c t) q
        ∙ cond_true (is_punctuation c) (as_sign c t) (no_sign c t) p,
    refl,
  );
  behind = before_of c;
  leaves = stands_outside c q;
  kept = λ t. refl;
}

record IsBracket (c : ℕ) (x : Piece) (n : ℕ) : Type 0 where
  pub bytes : encode_utf8_all (c ∷ []) ≡ spelling x
  pub one : n ≡ 1
  pub leaves : (b : Before) → is_inside b ≡ false → Leaves x b

bracket_case : (c k : ℕ) (p x : Piece) (n : ℕ) (r : Read) → spelling p ≡ k ∷ [] → k < 128 → ((b : Before) → is_inside b ≡ false → Leaves p b) → (r ≡ Some (x, n) → IsBracket c x n) → cond (eqb c k) (Some (p, 1)) r ≡ Some (x, n) → IsBracket c x n
bracket_case c k p x n r s low l h e =
    elim (eqb_tells c k) [
      | inl same ↦
          let found = same_front (p, 1) (x, n) (sym (cond_true (eqb c k) (Some (p, 1)) r same.0) ∙ e) in
          let P : Piece → Type 0 = λ y. (b : Before) → is_inside b ≡ false → Leaves y b in
          record {
            bytes = append-nil (encode_utf8 c) ∙ ap encode_utf8 same.1 ∙ encode_ascii k low ∙ sym s ∙ ap spelling found.0;
            one = sym found.1;
            leaves = subst P found.0 l;
          }
      | inr other ↦ h (sym (cond_false (eqb c k) (Some (p, 1)) r other.0) ∙ e)
    ]

is_bracket : (c : ℕ) (x : Piece) (n : ℕ) → bracket c ≡ Some (x, n) → IsBracket c x n
is_bracket c x n =
    bracket_case c 40 (opens Parenthesis) x n _ refl (omega arith) (λ b o. o)
    (bracket_case c 41 (closes Parenthesis) x n _ refl (omega arith) (λ b o. o)
    (bracket_case c 91 (opens Bracket) x n _ refl (omega arith) (λ b o. o)
    (bracket_case c 93 (closes Bracket) x n _ refl (omega arith) (λ b o. o)
    (bracket_case c 123 (opens Brace) x n _ refl (omega arith) (λ b o. o)
    (bracket_case c 125 (closes Brace) x n _ refl (omega arith) (λ b o. o) (λ e. absurd (cc)))))))

bracket_token : (c : ℕ) (cs : List ℕ) (x : Piece) (n : ℕ) → scalars (c ∷ cs) ≡ true → is_ascii_digit c ≡ false → eqb c 34 ≡ false → is_punctuation c ≡ false → begins_name c ≡ false → bracket c ≡ Some (x, n) → Token x c
bracket_token c cs x n h d q p b e =
    let i = is_bracket c x n e in
    record {
      more = [];
      bytes = i.bytes;
      scalar_values = head_scalars c cs [] h refl;
      reads = λ t f. (
        x,
        cond_false (is_ascii_digit c) (as_digits c t (name_len t)) (no_digit c t) d
            ∙ cond_false (eqb c 34) (string_front t) (no_string c t) q
            ∙ cond_false (is_punctuation c) (as_sign c t) (no_sign c t) p
            ∙ cond_false (begins_name c) (as_name c t (name_span c t)) (bracket c) b
            ∙ e ∙ ap (λ k. Some (x, k)) i.one,
        refl,
      );
      behind = before_of c;
      leaves = i.leaves (before_of c) (stands_outside c q);
      kept = λ t. refl;
    }

-- ---- string literals

abbrev StaysInside : List ℕ → Type 0
StaysInside s = (t : List ℕ) → codes_from (spot Literal false) (s ++ t) ≡ s ++ codes_from (spot Literal false) t

choose : (v k : ℕ) (a r : List ℕ) → StaysInside a → ((v ≡ k → ⊥) → StaysInside r) → StaysInside (cond (eqb v k) a r)
choose v k a r h g =
    let P : Bool → Type 0 = λ b. StaysInside (cond b a r) in
    elim (eqb_tells v k) [ inl p ↦ subst P (sym p.0) h | inr p ↦ subst P (sym p.0) (g p.1) ]

plain_stays : (v : ℕ) → (v ≡ 92 → ⊥) → (v ≡ 34 → ⊥) → StaysInside (v ∷ [])
plain_stays v h k t =
    let q = eqb_no v 34 k in
    let b = eqb_no v 92 h in
    λ i. v ∷ codes_from (spot (if q i then Other else (if b i then Escape else Literal)) false) t

spelled_stays : (v : ℕ) → StaysInside (spelled v)
spelled_stays v =
    choose v 10 _ _ (λ t. refl) (λ n1. choose v 13 _ _ (λ t. refl) (λ n2. choose v 9 _ _ (λ t. refl) (λ n3. choose v 0 _ _ (λ t. refl) (λ n4. choose v 92 _ _ (λ t. refl) (λ n5. choose v 34 _ _ (λ t. refl) (λ n6.
    choose v 8234 _ _ (λ t. refl) (λ m0. choose v 8235 _ _ (λ t. refl) (λ m1. choose v 8236 _ _ (λ t. refl) (λ m2. choose v 8237 _ _ (λ t. refl) (λ m3. choose v 8238 _ _ (λ t. refl)
    (λ m4. choose v 8294 _ _ (λ t. refl) (λ m5. choose v 8295 _ _ (λ t. refl) (λ m6. choose v 8296 _ _ (λ t. refl) (λ m7. choose v 8297 _ _ (λ t. refl) (λ m8. plain_stays v n5 n6)))))))))))))))

all_stay : (vs : List ℕ) → StaysInside (flat_map spelled vs)
all_stay [] t = refl
all_stay (v ∷ vs) t =
    ap (λ l. codes_from (spot Literal false) l) (append_assoc (spelled v) (flat_map spelled vs) t)
    ∙ spelled_stays v (flat_map spelled vs ++ t)
    ∙ ap (λ l. spelled v ++ l) (all_stay vs t)
    ∙ sym (append_assoc (spelled v) (flat_map spelled vs) (codes_from (spot Literal false) t))

-- and then the quote and the suffix
literal_kept : (vs m : List ℕ) → GoOn m → (t : List ℕ)
    → codes_from (spot Literal false) ((flat_map spelled vs ++ 34 ∷ m) ++ t) ≡ (flat_map spelled vs ++ 34 ∷ m) ++ codes_from (spot (after_words Other m) false) t
literal_kept vs m g t =
    ap (λ l. codes_from (spot Literal false) l) (append_assoc (flat_map spelled vs) (34 ∷ m) t)
    ∙ all_stay vs (34 ∷ (m ++ t))
    ∙ ap (λ l. flat_map spelled vs ++ 34 ∷ l) (words_kept Other refl m g t)
    ∙ sym (append_assoc (flat_map spelled vs) (34 ∷ m) (codes_from (spot (after_words Other m) false) t))

suffix_leaves : (m : List ℕ) → is_closed (after_words Other m) ≡ true
suffix_leaves [] = refl
suffix_leaves (e ∷ m) = refl

map_found : (f : List ℕ × ℕ → Piece × ℕ) (r : Option (List ℕ × ℕ)) (q : Piece × ℕ) → option_map f r ≡ Some q → (p : List ℕ × ℕ) × (r ≡ Some p) × ((f p).0 ≡ q.0)
map_found f None q h = absurd (cc)
map_found f (Some p) q h = (p, refl, (same_front (f p) q h).0)

abbrev found_string : List ℕ → List ℕ × ℕ → Piece × ℕ
found_string cs r =
    let after = drop r.1 cs in
    (constant (text r.0 (encode_utf8_all (take (name_len after) after))), r.1 + name_len after + 1)

string_token : (cs : List ℕ) (x : Piece) (n : ℕ) → scalars cs ≡ true → string_front cs ≡ Some (x, n) → Token x 34
string_token cs x n h e =
    let found = map_found (found_string cs) (body 0 cs) (x, n) e in
    let v = found.0.0 in
    let after = drop found.0.1 cs in
    let m = take (name_len after) after in
    let g = own_go_on after in
    let t = body_text cs 0 h v found.0.1 found.1 in
    let vs = t.codes in
    let flat = flat_map spelled vs in
    let quote : encode_utf8_all (34 ∷ m) ≡ 34 ∷ encode_utf8_all m = ap (λ l. l ++ encode_utf8_all m) (encode_ascii 34 (omega arith)) in
    let value : flat_map escaped vs ≡ flat_map escaped (chars v) = ap (flat_map escaped) (sym (ap chars t.bytes ∙ chars-encodes vs t.scalar_values)) in
    let spelt : encode_utf8_all (34 ∷ (flat ++ 34 ∷ m)) ≡ spelling (constant (text v (encode_utf8_all m))) =
    ap (λ l. l ++ encode_utf8_all (flat ++ 34 ∷ m)) (encode_ascii 34 (omega arith))
    ∙ ap (λ l. 34 ∷ l) (encodes-append flat (34 ∷ m) ∙ ap (λ l. l ++ encode_utf8_all (34 ∷ m)) (spelled_all vs ∙ value) ∙ ap (λ l. flat_map escaped (chars v) ++ l) quote) in
    let P : Piece → Type 0 = λ y. Token y 34 in
    subst P found.2 (record {
      more = flat ++ 34 ∷ m;
      bytes = spelt;
      scalar_values = scalars_append flat (34 ∷ m) (spelled_all_scalars vs t.scalar_values) (scalars_take (name_len after) after (scalars_drop found.0.1 cs h));
      reads = λ s f.
          let tail = m ++ s in
          let past : drop (length flat + 1) (flat ++ 34 ∷ tail) ≡ tail = drop_seam flat 34 tail in
          let size : length flat + 1 + length m + 1 ≡ length (flat ++ 34 ∷ m) + 1 = omega (arith, length-append flat (34 ∷ m)) in (
            constant (text v (encode_utf8_all m)),
            ap string_front (append_assoc flat (34 ∷ m) s)
                ∙ ap (option_map (found_string (flat ++ 34 ∷ tail))) (spelled_body vs tail)
                ∙ ap (λ q. Some (constant (text (encode_utf8_all vs) (encode_utf8_all (take (name_len q) q))), length flat + 1 + name_len q + 1)) past
                ∙ ap (λ k. Some (constant (text (encode_utf8_all vs) (encode_utf8_all (take k tail))), length flat + 1 + k + 1)) (len_is m s g f)
                ∙ ap (λ q. Some (constant (text (encode_utf8_all vs) (encode_utf8_all q)), length flat + 1 + length m + 1)) (take_own m s)
                ∙ ap (λ w. Some (constant (text w (encode_utf8_all m)), length flat + 1 + length m + 1)) (sym t.bytes)
                ∙ ap (λ k. Some (constant (text v (encode_utf8_all m)), k)) size,
            refl,
          );
      behind = after_words Other m;
      leaves = suffix_leaves m;
      kept = literal_kept vs m g;
    })

-- ---- all tokens

abbrev same_piece : (c : ℕ) (y x : Piece) (k n : ℕ) → ◌≡◌ {A = Read} (Some (y, k)) (Some (x, n)) → Token y c → Token x c
same_piece c y x k n e p = let P : Piece → Type 0 = λ z. Token z c in subst P (same_front (y, k) (x, n) e).0 p

name_or_bracket : (c : ℕ) (cs : List ℕ) (x : Piece) (n : ℕ) (b : Bool) → begins_name c ≡ b → scalars (c ∷ cs) ≡ true → is_ascii_digit c ≡ false → eqb c 34 ≡ false → is_punctuation c ≡ false → no_sign c cs ≡ Some (x, n) → Token x c
name_or_bracket c cs x n true k h d q p e =
    same_piece c _ x _ n (sym (cond_true (begins_name c) (as_name c cs (name_span c cs)) (bracket c) k) ∙ e)
    (name_token c cs h (record { digit = d; quote = q; mark = p; begins = k }) ((eqb c 114) && is_raw_rest cs) refl)
name_or_bracket c cs x n false k h d q p e =
    bracket_token c cs x n h d q p k (sym (cond_false (begins_name c) (as_name c cs (name_span c cs)) (bracket c) k) ∙ e)

sign_or_more : (c : ℕ) (cs : List ℕ) (x : Piece) (n : ℕ) (b : Bool) → is_punctuation c ≡ b → scalars (c ∷ cs) ≡ true → is_ascii_digit c ≡ false → eqb c 34 ≡ false → no_string c cs ≡ Some (x, n) → Token x c
sign_or_more c cs x n true k h d q e =
    same_piece c (sign c (spacing_of c cs)) x 1 n (sym (cond_true (is_punctuation c) (as_sign c cs) (no_sign c cs) k) ∙ e) (sign_token c cs h d q k)
sign_or_more c cs x n false k h d q e =
    name_or_bracket c cs x n (begins_name c) refl h d q k (sym (cond_false (is_punctuation c) (as_sign c cs) (no_sign c cs) k) ∙ e)

string_or_more : (c : ℕ) (cs : List ℕ) (x : Piece) (n : ℕ) → scalars (c ∷ cs) ≡ true → is_ascii_digit c ≡ false → no_digit c cs ≡ Some (x, n) → Token x c
string_or_more c cs x n h d e =
    elim (eqb_tells c 34) [
      | inl same ↦
          let P : ℕ → Type 0 = Token x in
          subst P (sym same.1) (string_token cs x n (rest_scalars c cs h) (sym (cond_true (eqb c 34) (string_front cs) (no_string c cs) same.0) ∙ e))
      | inr other ↦ sign_or_more c cs x n (is_punctuation c) refl h d other.0 (sym (cond_false (eqb c 34) (string_front cs) (no_string c cs) other.0) ∙ e)
    ]

digit_or_more : (c : ℕ) (cs : List ℕ) (x : Piece) (n : ℕ) (b : Bool) → is_ascii_digit c ≡ b → scalars (c ∷ cs) ≡ true → front (c ∷ cs) ≡ Some (x, n) → Token x c
digit_or_more c cs x n true k h e =
    same_piece c _ x _ n (sym (cond_true (is_ascii_digit c) (as_digits c cs (name_len cs)) (no_digit c cs) k) ∙ e) (digits_token c cs h k)
digit_or_more c cs x n false k h e =
    string_or_more c cs x n h k (sym (cond_false (is_ascii_digit c) (as_digits c cs (name_len cs)) (no_digit c cs) k) ∙ e)

-- a token that stands at the front of characters
pub token : (c : ℕ) (cs : List ℕ) (x : Piece) (n : ℕ) → scalars (c ∷ cs) ≡ true → front (c ∷ cs) ≡ Some (x, n) → Token x c
token c cs x n h e = digit_or_more c cs x n (is_ascii_digit c) refl h e
