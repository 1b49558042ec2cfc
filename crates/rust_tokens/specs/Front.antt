-- The token at the front of a text, whose characters are given by their codes (the Rust Reference, "Tokens" and "Identifiers").
use Rattle.std.specs.Prelude.{ℕ, zero, suc, ◌+◌, ◌*◌, List, [], ◌∷◌, ◌++◌, Bool, false, cond, ◌&&◌, ◌||◌, ◌==◌, nat_lt, Option, Some, None, option_map, take, drop, encode_utf8, encode_utf8_all}
use Rattle.std.specs.Char.{digit_value, is_digit, is_ascii_digit}
use Rattle.unicode_ident.specs.Ident.{is_xid_start, is_xid_continue}
use Rattle.token_trees.specs.declared.token.Delimiter.TheVariants.{Parenthesis, Brace, Bracket}
use Rattle.token_trees.specs.declared.token.Spacing.{Spacing}
use Rattle.token_trees.specs.declared.token.Spacing.TheVariants.{Alone, Joint}
use Rattle.token_trees.specs.Token.{text, digits}
use Rattle.token_trees.specs.Text.{Piece, name, sign, constant, opens, closes}
use lib.Utf8.{scalar}

-- Identifiers

-- `_` or XID_Start
abbrev pub begins_name : ℕ → Bool
begins_name c = (c == 95) || is_xid_start c

-- how many characters at the front go on with an identifier: XID_Continue
abbrev pub name_len : List ℕ → ℕ
name_len [] = 0
name_len (c ∷ cs) = cond (is_xid_continue c) (name_len cs + 1) 0

-- whether the characters after the first are those of a raw identifier: `#`, and what an identifier begins with
abbrev pub is_raw_rest : List ℕ → Bool
is_raw_rest [] = false
is_raw_rest (h ∷ []) = false
is_raw_rest (h ∷ c ∷ cs) = (h == 35) && begins_name c

-- how many characters an identifier takes whose first is c and that goes on in cs; `r#` may stand before it
abbrev pub name_span : ℕ → List ℕ → ℕ
name_span c cs = cond ((c == 114) && is_raw_rest cs) (name_len (drop 2 cs) + 3) (name_len cs + 1)

-- Punctuation

-- + - * / % ^ ! & | = < > @ . , ; : # $ ? ~ '
abbrev pub is_punctuation : ℕ → Bool
is_punctuation c =
    (c == 43) || (c == 45) || (c == 42) || (c == 47) || (c == 37) || (c == 94) || (c == 33) || (c == 38) || (c == 124) || (c == 61) || (c == 60)
    || (c == 62) || (c == 64) || (c == 46) || (c == 44) || (c == 59) || (c == 58) || (c == 35) || (c == 36) || (c == 63) || (c == 126) || (c == 39)

-- a punctuation character c is joint where another follows at once, and a quote where an identifier does
abbrev pub spacing_of : ℕ → List ℕ → Spacing
spacing_of c [] = Alone
spacing_of c (d ∷ ds) = cond (is_punctuation d || ((c == 39) && begins_name d)) Joint Alone

-- String literals

-- how many hexadecimal digits stand at the front
abbrev pub hex_len : List ℕ → ℕ
hex_len [] = 0
hex_len (c ∷ cs) = cond (is_digit c 16) (hex_len cs + 1) 0

-- the number that digits write after those that write `high`
abbrev pub hex_value : ℕ → List ℕ → ℕ
hex_value high [] = high
hex_value high (c ∷ cs) = hex_value (16 * high + digit_value c) cs

abbrev pub begins_with : ℕ → List ℕ → Bool
begins_with c [] = false
begins_with c (d ∷ ds) = d == c

-- The character of an escape, and how many characters it takes after the backslash.

-- two hexadecimal digits below 80, after `x`
abbrev pub byte_escape : List ℕ → Option (ℕ × ℕ)
byte_escape [] = None
byte_escape (c ∷ []) = None
byte_escape (c ∷ d ∷ ds) =
    cond (is_digit c 8 && is_digit d 16) (Some (16 * digit_value c + digit_value d, 3)) None

-- one to six hexadecimal digits of a character and a brace, after `u{`
abbrev pub braced_escape : List ℕ → Option (ℕ × ℕ)
braced_escape cs =
    let n = hex_len cs in
    let value = hex_value 0 (take n cs) in
    cond (nat_lt 0 n && nat_lt n 7 && begins_with 125 (drop n cs) && scalar value) (Some (value, n + 3)) None

abbrev pub unicode_escape : List ℕ → Option (ℕ × ℕ)
unicode_escape [] = None
unicode_escape (c ∷ cs) = cond (c == 123) (braced_escape cs) None

-- \n \r \t \\ \0 \' \" \xHH \u{H}
abbrev pub escape : List ℕ → Option (ℕ × ℕ)
escape [] = None
escape (c ∷ cs) =
    cond (c == 110) (Some (10, 1))
    (cond (c == 114) (Some (13, 1))
    (cond (c == 116) (Some (9, 1))
    (cond (c == 92) (Some (92, 1))
    (cond (c == 48) (Some (0, 1))
    (cond (c == 39) (Some (39, 1))
    (cond (c == 34) (Some (34, 1))
    (cond (c == 120) (byte_escape cs)
    (cond (c == 117) (unicode_escape cs) None))))))))

-- the character that a string literal has at its front, and how many further characters it takes there
abbrev pub unit : ℕ → List ℕ → Option (ℕ × ℕ)
unit c cs = cond (c == 92) (escape cs) (Some (c, 0))

-- What stands before the closing quote, in UTF-8, and how many characters that and the quote take. The first `skip`
-- characters belong to the escape before.
abbrev pub body : ℕ → List ℕ → Option (List ℕ × ℕ)
body skip [] = None
body (suc skip) (c ∷ cs) = option_map (λ r. (r.0, r.1 + 1)) (body skip cs)
body zero (c ∷ cs) = cond (c == 34) (Some ([], 1)) (elim (unit c cs) [
  | None ↦ None
  | Some u ↦ option_map (λ r. (encode_utf8 u.0 ++ r.0, r.1 + 1)) (body u.1 cs)
])

-- after the opening quote: the value up to the closing one, and the suffix
abbrev pub string_front : List ℕ → Option (Piece × ℕ)
string_front cs = option_map (λ r.
    let after = drop r.1 cs in
    (constant (text r.0 (encode_utf8_all (take (name_len after) after))), r.1 + name_len after + 1)) (body 0 cs)

-- Tokens

abbrev pub bracket : ℕ → Option (Piece × ℕ)
bracket c =
    cond (c == 40) (Some (opens Parenthesis, 1))
    (cond (c == 41) (Some (closes Parenthesis, 1))
    (cond (c == 91) (Some (opens Bracket, 1))
    (cond (c == 93) (Some (closes Bracket, 1))
    (cond (c == 123) (Some (opens Brace, 1))
    (cond (c == 125) (Some (closes Brace, 1)) None)))))

-- the token that begins with the first character, and how many characters it takes; none where no token begins
abbrev pub front : List ℕ → Option (Piece × ℕ)
front [] = None
front (c ∷ cs) =
    cond (is_ascii_digit c) (let n = name_len cs + 1 in Some (constant (digits (encode_utf8_all (take n (c ∷ cs)))), n))
    (cond (c == 34) (string_front cs)
    (cond (is_punctuation c) (Some (sign c (spacing_of c cs), 1))
    (cond (begins_name c) (let n = name_span c cs in Some (name (encode_utf8_all (take n (c ∷ cs))), n))
    (bracket c))))
