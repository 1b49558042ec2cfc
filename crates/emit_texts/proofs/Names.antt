-- Identifiers are lexed as one name.
use Rattle.std.proofs.Common.{◌≡◌, ◌<◌, ◌≤◌, ◌+◌, ℕ, Bool, true, false, ◌&&◌, ◌||◌, eqb, cond, List, [], ◌∷◌, length, take, drop, Option, Some, refl, ap, sym, subst, ◌∙◌, true≢false, add-one, encode_utf8_all, arith}
use Rattle.std.specs.Prelude.{◌==◌, nat_le}
use Rattle.std.specs.List.{list_all}
use Rattle.std.specs.Char.{is_ascii_digit, is_ascii_alphabetic}
use Rattle.std.specs.Str.{chars, skip_leading_whitespace}
use Rattle.std.proofs.Math.Seq.{take-length, drop-length}
use Rattle.std.proofs.lemmas.Bool.{and_parts, eqb-true, leb-true}
use Rattle.std.proofs.lemmas.Str.{chars-encodes}
use Rattle.unicode_ident.specs.Ident.{is_xid_start, is_xid_continue}
use Rattle.unicode_ident.proofs.IdentLemmas.{is_xid_start-ascii}
use Rattle.unicode_ident.proofs.Computing.{unicode_ident}
use Rattle.token_trees.specs.Token.{word, site}
use Rattle.token_trees.specs.Text.{Piece, name, sign, constant}
use Rattle.token_trees.specs.Token as tokens
use Rattle.rust_tokens.specs.Front.{name_len, begins_name, is_raw_rest, name_span, is_punctuation, spacing_of, string_front, bracket, front}
use Rattle.rust_tokens.specs.Reading.{Reads}
use Rattle.rust_tokens.proofs.Whites.{or_case, hash_no_continue, begins_no_white}
use Rattle.naming_defs.specs.Good.{spells_identifier, is_good_name}
use Rattle.naming_defs.proofs.Good.{known}
use Rattle.syntax_laws.specs.RoundTrip.{AreOfText}

-- ---- what begins an identifier begins no other token

begins_at : (c k : ℕ) → begins_name k ≡ false → eqb c k ≡ true → begins_name c ≡ false
begins_at c k h e = ap begins_name (eqb-true c k e) ∙ h

sign_no_begin : (c : ℕ) → is_punctuation c ≡ true → begins_name c ≡ false
unfolding unicode_ident
sign_no_begin c = (or_case _ (eqb c 39) (begins_name c ≡ false) (or_case _ (eqb c 126) (begins_name c ≡ false) (or_case _ (eqb c 63) (begins_name c ≡ false) (or_case _ (eqb c 36) (begins_name c ≡ false) (or_case _ (eqb c 35) (begins_name c ≡ false) (or_case _ (eqb c 58) (begins_name c ≡ false) (or_case _ (eqb c 59) (begins_name c ≡ false) (or_case _ (eqb c 44) (begins_name c ≡ false) (or_case _ (eqb c 46) (begins_name c ≡ false) (or_case _ (eqb c 64) (begins_name c ≡ false) (or_case _ (eqb c 62) (begins_name c ≡ false) (or_case _ (eqb c 60) (begins_name c ≡ false) (or_case _ (eqb c 61) (begins_name c ≡ false) (or_case _ (eqb c 124) (begins_name c ≡ false) (or_case _ (eqb c 38) (begins_name c ≡ false) (or_case _ (eqb c 33) (begins_name c ≡ false) (or_case _ (eqb c 94) (begins_name c ≡ false) (or_case _ (eqb c 37) (begins_name c ≡ false) (or_case _ (eqb c 47) (begins_name c ≡ false) (or_case _ (eqb c 42) (begins_name c ≡ false) (or_case _ (eqb c 45) (begins_name c ≡ false) (begins_at c 43 refl) (begins_at c 45 refl)) (begins_at c 42 refl)) (begins_at c 47 refl)) (begins_at c 37 refl)) (begins_at c 94 refl)) (begins_at c 33 refl)) (begins_at c 38 refl)) (begins_at c 124 refl)) (begins_at c 61 refl)) (begins_at c 60 refl)) (begins_at c 62 refl)) (begins_at c 64 refl)) (begins_at c 46 refl)) (begins_at c 44 refl)) (begins_at c 59 refl)) (begins_at c 58 refl)) (begins_at c 35 refl)) (begins_at c 36 refl)) (begins_at c 63 refl)) (begins_at c 126 refl)) (begins_at c 39 refl))

quote_no_begin : begins_name 34 ≡ false
unfolding unicode_ident
quote_no_begin = refl

no_ninety_five : (c : ℕ) → c < 95 → eqb c 95 ≡ false
no_ninety_five c h = elim (eqb c 95) as (λ b. eqb c 95 ≡ b → b ≡ false) [
  | true ↦ λ e. let same = eqb-true c 95 e in absurd (omega arith)
  | false ↦ λ e. refl
] refl

no_le : (a b : ℕ) → b < a → nat_le a b ≡ false
no_le a b h = elim (nat_le a b) as (λ z. nat_le a b ≡ z → z ≡ false) [
  | true ↦ λ e. let l = leb-true a b e in absurd (omega arith)
  | false ↦ λ e. refl
] refl

digit_no_letter : (c : ℕ) → 48 ≤ c → c ≤ 57 → is_ascii_alphabetic c ≡ false
digit_no_letter c l h =
    let upper = no_le 65 c (omega arith) in
    let lower = no_le 97 c (omega arith) in
    λ i. (upper i && nat_le c 90) || (lower i && nat_le c 122)

digit_no_begin : (c : ℕ) → is_ascii_digit c ≡ true → begins_name c ≡ false
digit_no_begin c h =
    let r = and_parts (nat_le 48 c) (nat_le c 57) h in
    let low : 48 ≤ c = leb-true 48 c r.0 in
    let high : c ≤ 57 = leb-true c 57 r.1 in
    let start : is_xid_start c ≡ false = is_xid_start-ascii c (omega arith) ∙ digit_no_letter c low high in
    let other : eqb c 95 ≡ false = no_ninety_five c (omega arith) in
    λ i. other i || start i

unless : (test other : Bool) → (test ≡ true → other ≡ false) → other ≡ true → test ≡ false
unless true other f h = absurd (true≢false (sym h ∙ f refl))
unless false other f h = refl

-- ---- all of an identifier goes on

pub all_len : (cs : List ℕ) → list_all is_xid_continue cs ≡ true → name_len cs ≡ length cs
all_len [] h = refl
all_len (c ∷ cs) h =
    let p = and_parts (is_xid_continue c) (list_all is_xid_continue cs) h in
    ap (λ b. cond b (name_len cs + 1) 0) p.0 ∙ ap (λ k. k + 1) (all_len cs p.1) ∙ add-one (length cs)

no_raw : (cs : List ℕ) → list_all is_xid_continue cs ≡ true → is_raw_rest cs ≡ false
no_raw [] h = refl
no_raw (d ∷ []) h = refl
no_raw (d ∷ e ∷ es) h =
    let p = and_parts (is_xid_continue d) (list_all is_xid_continue (e ∷ es)) h in
    ap (λ b. b && begins_name e) (unless (eqb d 35) (is_xid_continue d) (λ k. ap is_xid_continue (eqb-true d 35 k) ∙ hash_no_continue) p.0)

and_false : (b c : Bool) → c ≡ false → (b && c) ≡ false
and_false true c h = h
and_false false c h = refl

span_all : (c : ℕ) (cs : List ℕ) → list_all is_xid_continue cs ≡ true → name_span c cs ≡ length (c ∷ cs)
span_all c cs h = ap (λ b. cond b (name_len (drop 2 cs) + 3) (name_len cs + 1)) (and_false (eqb c 114) (is_raw_rest cs) (no_raw cs h)) ∙ ap (λ k. k + 1) (all_len cs h) ∙ add-one (length cs)

-- the identifier is the first token, and nothing is left
abbrev as_name : ℕ → List ℕ → ℕ → Option (Piece × ℕ)
as_name c cs n = Some (name (encode_utf8_all (take n (c ∷ cs))), n)

pub front_all : (c : ℕ) (cs : List ℕ) → begins_name c ≡ true → list_all is_xid_continue cs ≡ true → front (c ∷ cs) ≡ Some (name (encode_utf8_all (c ∷ cs)), length (c ∷ cs))
front_all c cs b h =
    let named = cond (begins_name c) (as_name c cs (name_span c cs)) (bracket c) in
    let no_digit = unless (is_ascii_digit c) (begins_name c) (digit_no_begin c) b in
    let no_quote = unless (eqb c 34) (begins_name c) (begins_at c 34 quote_no_begin) b in
    let no_sign = unless (is_punctuation c) (begins_name c) (sign_no_begin c) b in
    let others : Option (Piece × ℕ) = Some (constant (tokens.digits (encode_utf8_all (take (name_len cs + 1) (c ∷ cs)))), name_len cs + 1) in
    ap (λ z. cond z others (cond (eqb c 34) (string_front cs) (cond (is_punctuation c) (Some (sign c (spacing_of c cs), 1)) named))) no_digit
    ∙ ap (λ z. cond z (string_front cs) (cond (is_punctuation c) (Some (sign c (spacing_of c cs), 1)) named)) no_quote
    ∙ ap (λ z. cond z (Some (sign c (spacing_of c cs), 1)) named) no_sign
    ∙ ap (λ z. cond z (as_name c cs (name_span c cs)) (bracket c)) b
    ∙ ap (as_name c cs) (span_all c cs h)
    ∙ ap (λ l. Some (name (encode_utf8_all l), length (c ∷ cs))) (take-length (c ∷ cs))

pub no_white : (c : ℕ) (cs : List ℕ) → begins_name c ≡ true → skip_leading_whitespace (c ∷ cs) ≡ c ∷ cs
no_white c cs b = ap (λ z. cond z (skip_leading_whitespace cs) (c ∷ cs)) (begins_no_white c b)

pub reads_all : (c : ℕ) (cs x : List ℕ) → begins_name c ≡ true → list_all is_xid_continue cs ≡ true → encode_utf8_all (c ∷ cs) ≡ x → Reads (c ∷ cs) (name x ∷ []) []
reads_all c cs x b h e =
    let white = no_white c cs b in
    let first : front (c ∷ cs) ≡ Some (name x, length (c ∷ cs)) = front_all c cs b h ∙ ap (λ z. Some (name z, length (c ∷ cs))) e in (
      length (c ∷ cs),
      ap front white ∙ first,
      sym (ap (λ z. skip_leading_whitespace (drop (length (c ∷ cs)) z)) white ∙ ap skip_leading_whitespace (drop-length (c ∷ cs))),
    )

or_swap : (a b : Bool) → (a || b) ≡ true → (b || a) ≡ true
or_swap true true h = refl
or_swap true false h = refl
or_swap false true h = refl
or_swap false false h = h

pub identifier_reads : (cs x : List ℕ) → spells_identifier cs ≡ true → encode_utf8_all cs ≡ x → Reads cs (name x ∷ []) []
identifier_reads [] x h e = absurd (true≢false (sym h))
identifier_reads (c ∷ cs) x h e =
    let p = and_parts (is_xid_start c || (c == 95)) (list_all is_xid_continue cs) h in
    reads_all c cs x (or_swap (is_xid_start c) (c == 95) p.0) p.1 e

-- a good name is a word of some text
pub name_of_text : (n : List ℕ) → is_good_name n ≡ true → AreOfText (word n site ∷ [])
name_of_text n g =
    let k = known n g in
    let u = k.text in
    let cs = u.0 in
    let same : chars n ≡ cs = sym (ap chars u.1.1) ∙ chars-encodes cs u.1.0 in
    let spelled = k.identifier in
    (n, site, u, record { read = subst (λ z. Reads z (name n ∷ []) []) (sym same) (identifier_reads cs n (ap spells_identifier (sym same) ∙ spelled) u.1.1); written = (refl, tt) })
