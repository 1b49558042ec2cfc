-- Tokens that emitted items have, each of which some text begins with.
use Rattle.std.proofs.Common.{◌≡◌, ◌<◌, ℕ, Bool, true, false, true≢false, ◌&&◌, ◌||◌, List, [], ◌∷◌, ◌++◌, length, take, drop, ◌+◌, Some, codes, refl, ap, sym, subst, ◌∙◌, append-nil, bytes_eq, arith, encode_utf8_all}
use Rattle.std.specs.Prelude.{nat_le, option_map, flat_map}
use Rattle.std.specs.List.{list_all, list_any, AllByRecursion}
use Rattle.std.specs.Str.{chars, IsAscii, IsUtf8}
use Rattle.std.proofs.lemmas.Bool.{and_parts, leb-true}
use Rattle.std.proofs.lemmas.Slice.Eq.{bytes_eq-Decides}
use Rattle.std.proofs.lemmas.Str.{chars-IsAscii, encodes-IsAscii, encodes-append, IsUtf8-from_ascii, scalars-chars}
use Rattle.std.proofs.lemmas.Str.Ascii.{IsAscii-nil, IsAscii-cons}
use Rattle.unicode_ident.proofs.Computing.{unicode_ident}
use Rattle.token_trees.specs.declared.token.Delimiter.TheVariants.{Parenthesis, Brace, Bracket}
use Rattle.token_trees.specs.declared.token.Spacing.TheVariants.{Alone, Joint}
use Rattle.token_trees.specs.Token.{Tok, text}
use Rattle.token_trees.specs.Text.{Piece, name, sign, constant, opens, closes, pieces_of}
use Rattle.token_trees.proofs.Texts.{inner_pieces_of, pieces_of_append}
use Rattle.rust_tokens.specs.Front.{name_len}
use Rattle.rust_tokens.specs.Reading.{Reads}
use Rattle.rust_tokens.proofs.Printing.{scalars_append, spelled, spelled_all_scalars, spelled_body}
use Rattle.rust_tokens.proofs.Stable.{drop_seam}
use Rattle.syntax_printing.specs.Print.{within_parens, within_brackets, within_braces}
use Rattle.syntax_laws.specs.RoundTrip.{AreOfText}
use Rattle.naming_defs.specs.Good.{spells_identifier, is_good_name}
use Rattle.emit_texts.proofs.Names.{identifier_reads, name_of_text}
use Rattle.tidy_laws.specs.Laws.{IsToken}
use Rattle.tidy_laws.proofs.Kept.{read_pieces}
use Rattle.module_laws.proofs.Joins.{Are, as_pieces}
use lib.Utf8.{scalars}

-- ---- several

both : (xs ys : List Piece) → AllByRecursion IsToken xs → AllByRecursion IsToken ys → AllByRecursion IsToken (xs ++ ys)
both [] ys h k = k
both (x ∷ xs) ys h k = (h.0, both xs ys h.1 k)

pub are_both : (ts us : List Tok) → Are ts → Are us → Are (ts ++ us)
are_both ts us h k = as_pieces (pieces_of ts ++ pieces_of us) (pieces_of (ts ++ us)) (sym (pieces_of_append ts us)) (both (pieces_of ts) (pieces_of us) h k)

-- ---- punctuation and brackets

pub hash : IsToken (sign 35 Alone)
unfolding unicode_ident
hash = record { first = 35; others = []; count = 1; solid = refl; scalar_values = refl; found = refl }

pub comma : IsToken (sign 44 Alone)
unfolding unicode_ident
comma = record { first = 44; others = []; count = 1; solid = refl; scalar_values = refl; found = refl }

pub colon : IsToken (sign 58 Alone)
unfolding unicode_ident
colon = record { first = 58; others = []; count = 1; solid = refl; scalar_values = refl; found = refl }

pub joint_colon : IsToken (sign 58 Joint)
unfolding unicode_ident
joint_colon = record { first = 58; others = codes ":"; count = 1; solid = refl; scalar_values = refl; found = refl }

pub semicolon : IsToken (sign 59 Alone)
unfolding unicode_ident
semicolon = record { first = 59; others = []; count = 1; solid = refl; scalar_values = refl; found = refl }

pub less : IsToken (sign 60 Alone)
unfolding unicode_ident
less = record { first = 60; others = []; count = 1; solid = refl; scalar_values = refl; found = refl }

pub equals : IsToken (sign 61 Alone)
unfolding unicode_ident
equals = record { first = 61; others = []; count = 1; solid = refl; scalar_values = refl; found = refl }

pub greater : IsToken (sign 62 Alone)
unfolding unicode_ident
greater = record { first = 62; others = []; count = 1; solid = refl; scalar_values = refl; found = refl }

pub opening : IsToken (opens Parenthesis)
unfolding unicode_ident
opening = record { first = 40; others = []; count = 1; solid = refl; scalar_values = refl; found = refl }

pub closing : IsToken (closes Parenthesis)
unfolding unicode_ident
closing = record { first = 41; others = []; count = 1; solid = refl; scalar_values = refl; found = refl }

pub opening_bracket : IsToken (opens Bracket)
unfolding unicode_ident
opening_bracket = record { first = 91; others = []; count = 1; solid = refl; scalar_values = refl; found = refl }

pub closing_bracket : IsToken (closes Bracket)
unfolding unicode_ident
closing_bracket = record { first = 93; others = []; count = 1; solid = refl; scalar_values = refl; found = refl }

pub opening_brace : IsToken (opens Brace)
unfolding unicode_ident
opening_brace = record { first = 123; others = []; count = 1; solid = refl; scalar_values = refl; found = refl }

pub closing_brace : IsToken (closes Brace)
unfolding unicode_ident
closing_brace = record { first = 125; others = []; count = 1; solid = refl; scalar_values = refl; found = refl }

enclosed : (x y : Piece) (ts us : List Tok) → pieces_of us ≡ x ∷ (pieces_of ts ++ y ∷ []) → IsToken x → IsToken y → Are ts → Are us
enclosed x y ts us e h k a = as_pieces (x ∷ (pieces_of ts ++ y ∷ [])) (pieces_of us) (sym e) (h, both (pieces_of ts) (y ∷ []) a (k, tt))

pub in_parens : (ts : List Tok) → Are ts → Are (within_parens ts ∷ [])
in_parens ts = enclosed (opens Parenthesis) (closes Parenthesis) ts (within_parens ts ∷ []) (append-nil _ ∙ ap (λ z. opens Parenthesis ∷ (z ++ closes Parenthesis ∷ [])) (inner_pieces_of ts)) opening closing

pub in_brackets : (ts : List Tok) → Are ts → Are (within_brackets ts ∷ [])
in_brackets ts = enclosed (opens Bracket) (closes Bracket) ts (within_brackets ts ∷ []) (append-nil _ ∙ ap (λ z. opens Bracket ∷ (z ++ closes Bracket ∷ [])) (inner_pieces_of ts)) opening_bracket closing_bracket

pub in_braces : (ts : List Tok) → Are ts → Are (within_braces ts ∷ [])
in_braces ts = enclosed (opens Brace) (closes Brace) ts (within_braces ts ∷ []) (append-nil _ ∙ ap (λ z. opens Brace ∷ (z ++ closes Brace ∷ [])) (inner_pieces_of ts)) opening_brace closing_brace

-- ---- names

pub good_name : (n : List ℕ) → is_good_name n ≡ true → IsToken (name n)
good_name n g = let a = name_of_text n g in (read_pieces (name n ∷ []) (chars a.0) (scalars-chars a.0 a.2) a.3.read).0

ascii : (w : List ℕ) → list_all (λ c. nat_le c 127) w ≡ true → IsAscii w
ascii [] h = IsAscii-nil
ascii (c ∷ cs) h =
    let p = and_parts (nat_le c 127) (list_all (λ d. nat_le d 127) cs) h in
    let l = leb-true c 127 p.0 in
    let low : c < 128 = omega (arith, l) in
    IsAscii-cons c cs low (ascii cs p.1)

abbrev is_word : List ℕ → Bool
is_word w = spells_identifier w && list_all (λ c. nat_le c 127) w

word_stands : (w : List ℕ) → is_word w ≡ true → IsToken (name w)
word_stands w h =
    let p = and_parts (spells_identifier w) (list_all (λ c. nat_le c 127) w) h in
    let a = ascii w p.1 in
    let R : List ℕ → Type 0 = λ z. Reads z (name w ∷ []) [] in
    (read_pieces (name w ∷ []) (chars w) (scalars-chars w (IsUtf8-from_ascii w a)) (subst R (sym (chars-IsAscii w a)) (identifier_reads w w p.0 (encodes-IsAscii w a)))).0

abbrev words : List (List ℕ)
words =
    codes "bool" ∷ codes "i8" ∷ codes "u8" ∷ codes "i16" ∷ codes "u16" ∷ codes "i32" ∷ codes "u32" ∷ codes "i64" ∷ codes "u64" ∷ codes "std" ∷ codes "num"
    ∷ codes "NonZeroU8" ∷ codes "NonZeroU16" ∷ codes "NonZeroU32" ∷ codes "NonZeroU64" ∷ codes "string" ∷ codes "String" ∷ codes "serde_json" ∷ codes "Value"
    ∷ codes "option" ∷ codes "Option" ∷ codes "boxed" ∷ codes "Box" ∷ codes "vec" ∷ codes "Vec" ∷ codes "collections" ∷ codes "HashSet" ∷ codes "HashMap"
    ∷ codes "uuid" ∷ codes "Uuid" ∷ codes "chrono" ∷ codes "naive" ∷ codes "NaiveDate" ∷ codes "DateTime" ∷ codes "offset" ∷ codes "Utc" ∷ codes "net"
    ∷ codes "IpAddr" ∷ codes "Ipv4Addr" ∷ codes "Ipv6Addr" ∷ codes "serde" ∷ codes "rename" ∷ codes "default" ∷ codes "skip_serializing_if"
    ∷ codes "deserialize_with" ∷ codes "tag" ∷ codes "content" ∷ codes "untagged" ∷ codes "flatten" ∷ codes "transparent" ∷ codes "try_from"
    ∷ codes "deny_unknown_fields" ∷ codes "struct" ∷ codes "enum" ∷ codes "union" ∷ []

all_words : list_all is_word words ≡ true
unfolding unicode_ident
all_words = refl

among : (w : List ℕ) (ws : List (List ℕ)) → list_all is_word ws ≡ true → list_any (bytes_eq w) ws ≡ true → is_word w ≡ true
among w [] p h = absurd (true≢false (sym h))
among w (x ∷ xs) p h =
    let q = and_parts (is_word x) (list_all is_word xs) p in
    let rec = among w xs q.1 in
    elim (bytes_eq w x) as (λ b. bytes_eq w x ≡ b → (b || list_any (bytes_eq w) xs) ≡ true → is_word w ≡ true) [
      | true ↦ λ e k. ap is_word ((bytes_eq-Decides w x).0 e) ∙ q.0
      | false ↦ λ e k. rec k
    ] refl h

-- those that emission itself writes
abbrev pub is_written : List ℕ → Bool
is_written w = list_any (bytes_eq w) words

pub own : (w : List ℕ) → is_written w ≡ true → IsToken (name w)
own w h = word_stands w (among w words all_words h)

-- ---- string literals

abbrev string_of : List ℕ → List ℕ × ℕ → Piece × ℕ
string_of cs r =
    let after = drop r.1 cs in
    (constant (text r.0 (encode_utf8_all (take (name_len after) after))), r.1 + name_len after + 1)

pub literal : (v : List ℕ) → IsUtf8 v → IsToken (constant (text v []))
literal v u =
    let vs = u.0 in
    let flat = flat_map spelled vs in
    let L : List ℕ → Type 0 = λ w. IsToken (constant (text w [])) in
    subst L u.1.1 (record {
      first = 34;
      others = flat ++ 34 ∷ [];
      count = length flat + 1 + 0 + 1;
      solid = refl;
      scalar_values = scalars_append flat (34 ∷ []) (spelled_all_scalars vs u.1.0) refl;
      found = ap (option_map (string_of (flat ++ 34 ∷ []))) (spelled_body vs [])
          ∙ ap (λ q. Some (constant (text (encode_utf8_all vs) (encode_utf8_all (take (name_len q) q))), length flat + 1 + name_len q + 1)) (drop_seam flat 34 []);
    })

pub ascii_text : (w : List ℕ) → list_all (λ c. nat_le c 127) w ≡ true → IsUtf8 w
ascii_text w h = IsUtf8-from_ascii w (ascii w h)

pub text_both : (a b : List ℕ) → IsUtf8 a → IsUtf8 b → IsUtf8 (a ++ b)
text_both a b h k = (h.0 ++ k.0, (scalars_append h.0 k.0 h.1.0 k.1.0, encodes-append h.0 k.0 ∙ (λ i. h.1.1 i ++ k.1.1 i)))
