-- Plain patterns, a part of the patterns of ECMA-262 (22.2.1, and B.1.2 for what stands for itself outside of unicode mode):
-- alternatives, terms, groups with a capture and `(?:`, `^`, `$`, `\b`, `\B`, quantifiers with and without a `?` behind, `.`,
-- escapes of characters and of sets, and classes. A pattern is read outside of unicode mode, or else in it, where `\u{..}` and
-- `\p` have their meaning. Lookaround stands at the two ends of a pattern alone (Ends). References, names of groups and flags
-- are no part of them, and neither is what would only mean a letter (`\A`), an octal number or half of a surrogate pair. Each
-- is rewritten for `regex`, which reads some of these otherwise. A pattern and a text are read as characters, also where the
-- standard reads code units, and what is written is bytes. In the definitions `u` says that unicode mode is on.
use Rattle.std.specs.Prelude.{ℕ, zero, suc, ◌+◌, ◌*◌, ◌-◌, ◌%◌, ◌==◌, ◌&&◌, ◌||◌, not, nat_le, min, Bool, true, false, List, [], ◌∷◌, ◌++◌, length, drop, take, codes, encode_utf8, Option, Some, None, option_map, option_and_then, if◌then◌else◌}
use Rattle.std.specs.List.{list_any, flat_map, position_or_len}
use Rattle.std.specs.Option.{option_or}
use Rattle.std.specs.Char.{digit_value, is_digit, is_ascii_alphabetic, is_ascii_alphanumeric, is_ascii_digit, is_ascii_punctuation}
use Rattle.plain_patterns.specs.declared.atom.Set.{Set}
use Rattle.plain_patterns.specs.declared.atom.Set.TheVariants.{Dot, Digit, NoDigit, Space, NoSpace, Word, NoWord, Property}
use Rattle.plain_patterns.specs.declared.atom.Atom.{Atom}
use Rattle.plain_patterns.specs.declared.atom.Atom.TheVariants.{Character, Named}
use Rattle.plain_patterns.specs.declared.atom.Member.{Member}
use Rattle.plain_patterns.specs.declared.atom.Member.TheVariants.{Single, Range, Beside}
use Rattle.plain_patterns.specs.declared.table.Property.TheVariants.{GeneralCategory, Binary}
use Rattle.plain_patterns.specs.declared.table.Name.{Name}
use Rattle.plain_patterns.specs.Properties.{property_named, property_sign, spelled, value_named}
use Rattle.plain_patterns.specs.declared.state.Kind.{Kind}
use Rattle.plain_patterns.specs.declared.state.Kind.TheVariants.{Opening, Closing, Bar, Assertion, Item, Repetition}
use lib.Utf8.{scalar}

abbrev pub Text : Type 0
Text = List ℕ

-- one step after another, where each may refuse the text
infixl 10 ◌>>=◌
abbrev pub ◌>>=◌ : {A B : Type 0} → Option A → (A → Option B) → Option B
o >>= f = option_and_then f o

abbrev pub is_one_of : List ℕ → ℕ → Bool
is_one_of cs c = list_any (λ d. d == c) cs

-- the text begins with the character
abbrev pub is_at : ℕ → Text → Bool
is_at c [] = false
is_at c (d ∷ t) = d == c

-- ---- characters and sets

-- a character that stands for itself: `regex` takes punctuation for itself behind a backslash, but `<` and `>` only bare
abbrev pub verbatim : ℕ → List ℕ
verbatim c = if is_ascii_punctuation c && not (c == 60 || c == 62) then 92 ∷ encode_utf8 c else encode_utf8 c

-- `.` is any character that ends no line (LineTerminator, 12.3). `\d` is a decimal digit, `\w` a letter or digit of ASCII or
-- `_`, and `\s` what is white space (WhiteSpace, 12.2) or ends a line; `\D`, `\W` and `\S` are all others (22.2.2.9).
-- `\p` has what Unicode gives the property that it names, and `\P` all else.
abbrev pub negation_sign : Bool → List ℕ
negation_sign negated = if negated then codes "\\P{" else codes "\\p{"

abbrev pub property_bytes : Bool → Name → List ℕ
property_bytes negated n = negation_sign negated ++ property_sign n.property ++ spelled n ++ 125 ∷ []

abbrev pub set_bytes : Set → List ℕ
set_bytes Dot = codes "[^\\n\\r\\x{2028}\\x{2029}]"
set_bytes Digit = codes "[0-9]"
set_bytes NoDigit = codes "[^0-9]"
set_bytes Space = codes "[\\t-\\r \\x{A0}\\x{1680}\\x{2000}-\\x{200A}\\x{2028}\\x{2029}\\x{202F}\\x{205F}\\x{3000}\\x{FEFF}]"
set_bytes NoSpace = codes "[^\\t-\\r \\x{A0}\\x{1680}\\x{2000}-\\x{200A}\\x{2028}\\x{2029}\\x{202F}\\x{205F}\\x{3000}\\x{FEFF}]"
set_bytes Word = codes "[0-9A-Za-z_]"
set_bytes NoWord = codes "[^0-9A-Za-z_]"
set_bytes (Property negated n) = property_bytes negated n

abbrev pub atom_bytes : Atom → List ℕ
atom_bytes (Character c) = verbatim c
atom_bytes (Named s) = set_bytes s

-- ---- escapes

-- CharacterClassEscape and ControlEscape (22.2.1): letters that need nothing behind them
abbrev pub letter : ℕ → Option Atom
letter c =
    if c == 100 then Some (Named Digit)
    else if c == 68 then Some (Named NoDigit)
    else if c == 115 then Some (Named Space)
    else if c == 83 then Some (Named NoSpace)
    else if c == 119 then Some (Named Word)
    else if c == 87 then Some (Named NoWord)
    else if c == 116 then Some (Character 9)
    else if c == 110 then Some (Character 10)
    else if c == 118 then Some (Character 11)
    else if c == 102 then Some (Character 12)
    else if c == 114 then Some (Character 13)
    else None

-- the character of a code, where that is no half of a surrogate pair
abbrev pub character : ℕ → Option Atom
character code = if scalar code then Some (Character code) else None

-- an atom, and what follows
abbrev pub Read : Type 0
Read = Atom × Text

abbrev pub coded : Option (ℕ × Text) → Option Read
coded found = found >>= λ p. option_map {U = Read} (λ a. (a, p.1)) (character p.0)

-- after `\0`: no digit
abbrev pub null : Text → Option Read
null [] = Some (Character 0, [])
null (c ∷ t) = if is_ascii_digit c then None else Some (Character 0, c ∷ t)

-- after `\c`: a letter, whose code counts modulo 32
abbrev pub control : Text → Option (ℕ × Text)
control [] = None
control (c ∷ t) = if is_ascii_alphabetic c then Some (c % 32, t) else None

-- two digits of sixteen
abbrev pub hex_pair : Text → Option (ℕ × Text)
hex_pair [] = None
hex_pair (c ∷ []) = None
hex_pair (c ∷ d ∷ t) = if is_digit c 16 && is_digit d 16 then Some (16 * digit_value c + digit_value d, t) else None

-- four of them
abbrev pub code_unit : Text → Option (ℕ × Text)
code_unit t = hex_pair t >>= λ p. hex_pair p.1 >>= λ q. Some (256 * p.0 + q.0, q.1)

abbrev pub is_lead : ℕ → Bool
is_lead u = nat_le 55296 u && nat_le u 56319

abbrev pub is_trail : ℕ → Bool
is_trail u = nat_le 56320 u && nat_le u 57343

-- what follows `\u`
abbrev pub after_u : Text → Option Text
after_u [] = None
after_u (c ∷ []) = None
after_u (c ∷ d ∷ t) = if c == 92 && d == 117 then Some t else None

-- The code point of a surrogate pair (UTF16SurrogatePairToCodePoint, 11.1.3).
abbrev pub pair_code : ℕ → ℕ × Text → Option (ℕ × Text)
pair_code lead p = if is_trail p.0 then Some (65536 + (lead - 55296) * 1024 + (p.0 - 56320), p.1) else None

-- after the first half of a surrogate pair: the second
abbrev pub trail_after : ℕ → Text → Option (ℕ × Text)
trail_after lead t = after_u t >>= λ u. code_unit u >>= λ p. pair_code lead p

-- four digits, or those of a surrogate pair
abbrev pub plain_code : Text → Option (ℕ × Text)
plain_code t = code_unit t >>= λ p. if is_lead p.0 then trail_after p.0 p.1 else Some p

-- one digit of sixteen more, of a number up to 10FFFF
abbrev pub next_code : ℕ → ℕ → Option ℕ
next_code code c = if is_digit c 16 && nat_le (code * 16 + digit_value c) 1114111 then Some (code * 16 + digit_value c) else None

-- digits up to a brace, behind those that were read
abbrev pub braced_after : ℕ → Text → Option (ℕ × Text)
braced_after code [] = None
braced_after code (c ∷ t) = if c == 125 then Some (code, t) else next_code code c >>= λ n. braced_after n t

-- after `\u{`: at least one digit
abbrev pub braced_code : Text → Option (ℕ × Text)
braced_code t = if is_at 125 t then None else braced_after 0 t

-- after `\u`
abbrev pub code_point : Bool → Text → Option (ℕ × Text)
code_point u t = if u && is_at 123 t then braced_code (drop 1 t) else plain_code t

-- how many characters stand before the first of this kind, or all
abbrev pub len_before : ℕ → Text → ℕ
len_before c t = position_or_len (λ d. d == c) t

-- UnicodePropertyValueExpression (22.2.1): a property and one of its values, or else a general category or a property without values
abbrev pub named : Text → Option Name
named t =
    if is_at 61 (drop (len_before 61 t) t) then property_named (take (len_before 61 t) t) >>= (λ p. value_named p (drop (len_before 61 t + 1) t))
    else option_or (value_named GeneralCategory t) (value_named Binary t)

abbrev pub property_before : Bool → Option Name → Text → Option Read
property_before negated found t = option_map {U = Read} (λ n. (Named (Property negated n), t)) found

-- after `\p{` or `\P{`: a name up to the brace that closes it
abbrev pub property_braced : Bool → Text → Option Read
property_braced negated t =
    if is_at 125 (drop (len_before 125 t) t) then property_before negated (named (take (len_before 125 t) t)) (drop (len_before 125 t + 1) t) else None

-- after `\p` or `\P`
unfoldable pub property : Bool → Text → Option Read
property negated t = if is_at 123 t then property_braced negated (drop 1 t) else None

abbrev pub longer_escape : Bool → ℕ → Text → Option Read
longer_escape u c t =
    if c == 48 then null t
    else if c == 99 then coded (control t)
    else if c == 120 then coded (hex_pair t)
    else if c == 117 then coded (code_point u t)
    else if u && c == 112 then property false t
    else if u && c == 80 then property true t
    else None

abbrev pub escape_by : Bool → Option Atom → ℕ → Text → Option Read
escape_by u (Some a) c t = Some (a, t)
escape_by u None c t = longer_escape u c t

-- IdentityEscape: in unicode mode SyntaxCharacter and `/`, else what is no letter or digit of ASCII (B.1.2)
abbrev pub is_identity : Bool → ℕ → Bool
is_identity u c = if u then is_one_of (codes "^$\\.*+?()[]{}|/") c else not (is_ascii_alphanumeric c)

-- after a backslash
abbrev pub escape : Bool → Text → Option Read
escape u [] = None
escape u (c ∷ t) = if is_identity u c then Some (Character c, t) else escape_by u (letter c) c t

-- ---- classes

-- ClassEscape (22.2.1): `\b` is a backspace
abbrev pub class_escape : Bool → Text → Option Read
class_escape u t =
    if is_at 98 t then Some (Character 8, drop 1 t)
    else if is_at 45 t then Some (Character 45, drop 1 t)
    else escape u t

abbrev pub class_atom : Bool → Text → Option Read
class_atom u [] = None
class_atom u (c ∷ t) = if c == 92 then class_escape u t else Some (Character c, t)

-- `-` between two atoms joins them, but none before the end of the class
abbrev pub is_range : Text → Bool
is_range [] = false
is_range (c ∷ t) = c == 45 && not (is_at 93 t)

-- The ends of a range are characters in order. Where one is a set, the hyphen is a character (CharacterRangeOrUnion, B.1.2).
abbrev pub joined : Bool → Atom → Atom → Option Member
joined u (Character a) (Character b) = if nat_le a b then Some (Range a b) else None
joined u (Character a) (Named s) = if u then None else Some (Beside (Character a) (Named s))
joined u (Named s) high = if u then None else Some (Beside (Named s) high)

abbrev pub joined_from : Bool → Atom → Text → Option (Member × Text)
joined_from u low t = class_atom u t >>= λ p. option_map (λ m. (m, p.1)) (joined u low p.0)

abbrev pub member_after : Bool → Atom → Text → Option (Member × Text)
member_after u low t = if is_range t then joined_from u low (drop 1 t) else Some (Single low, t)

abbrev pub member : Bool → Text → Option (Member × Text)
member u t = class_atom u t >>= λ p. member_after u p.0 p.1

abbrev pub member_bytes : Member → List ℕ
member_bytes (Single a) = atom_bytes a
member_bytes (Range a b) = verbatim a ++ 45 ∷ verbatim b
member_bytes (Beside a b) = atom_bytes a ++ codes "\\-" ++ atom_bytes b

-- the members up to the closing bracket, as they are written with it, and what follows; the number bounds how many there are
unfoldable pub members : Bool → ℕ → Text → Option (List ℕ × Text)
members u zero t = None
members u (suc n) t =
    if is_at 93 t then Some (93 ∷ [], drop 1 t)
    else member u t >>= λ p. option_map (λ q. (member_bytes p.0 ++ q.0, q.1)) (members u n p.1)

abbrev pub after_head : List ℕ → Option (List ℕ × Text) → Option (List ℕ × Text)
after_head head found = option_map (λ q. (head ++ q.0, q.1)) found

abbrev pub members_of : Bool → Text → Option (List ℕ × Text)
members_of u t = members u (length t) t

-- behind a head; without members the class is the other one
abbrev pub class_after : Bool → List ℕ → List ℕ → Text → Option (List ℕ × Text)
class_after u head other t = if is_at 93 t then Some (other, drop 1 t) else after_head head (members_of u t)

-- after the opening bracket: `[]` takes no character, and `[^]` any
abbrev pub class : Bool → Text → Option (List ℕ × Text)
class u t =
    if is_at 94 t then class_after u (codes "[^") (codes "[\\x{0}-\\x{10FFFF}]") (drop 1 t)
    else class_after u (codes "[") (codes "[^\\x{0}-\\x{10FFFF}]") t

-- ---- counts

-- the place of the first character that is no digit, or the end
abbrev pub digit_count : Text → ℕ
digit_count t = position_or_len (λ c. not (is_ascii_digit c)) t

-- the number that digits write, or 2 ^ 32 where it is above
abbrev pub number_after : ℕ → Text → ℕ
number_after n [] = n
number_after n (d ∷ ds) = number_after (min (n * 10 + (d - 48)) 4294967296) ds

abbrev pub number : Text → ℕ
number ds = number_after 0 ds

-- after `{n,`: how long `}` or `m}` is
abbrev pub most_len : Text → Option ℕ
most_len t = if is_at 125 (drop (digit_count t) t) then Some (digit_count t + 1) else None

-- after the brace, how long `n}`, `n,}` or `n,m}` is
abbrev pub counts_len : Text → Option ℕ
counts_len t =
    if digit_count t == 0 then None
    else if is_at 125 (drop (digit_count t) t) then Some (digit_count t + 1)
    else if is_at 44 (drop (digit_count t) t) then option_map (λ n. digit_count t + 1 + n) (most_len (drop (digit_count t + 1) t))
    else None

-- a count is less than 2 ^ 32, as no search reads another
abbrev pub is_count : Text → Bool
is_count ds = nat_le (number ds) 4294967295

-- there is no second number, or it is a count that isn't less
abbrev pub is_most : Text → Text → Bool
is_most least t = digit_count t == 0 || is_count (take (digit_count t) t) && nat_le (number least) (number (take (digit_count t) t))

-- what stands behind the brace are counts in order (22.2.1.1)
abbrev pub are_in_order : Text → Bool
are_in_order t =
    is_count (take (digit_count t) t) && (not (is_at 44 (drop (digit_count t) t)) || is_most (take (digit_count t) t) (drop (digit_count t + 1) t))

-- ---- pieces

-- the characters that are pieces alone
abbrev pub sign : ℕ → Option Kind
sign c =
    if c == 41 then Some Closing
    else if c == 124 then Some Bar
    else if is_one_of (codes "^$") c then Some Assertion
    else None

-- a kind, what is written, and what follows
abbrev pub Found : Type 0
Found = Kind × List ℕ × Text

-- after `(`: of what may follow a `?`, `(?:` alone
abbrev pub opening : Text → Option Found
opening [] = Some (Opening, 40 ∷ [], [])
opening (c ∷ t) =
    if not (c == 63) then Some (Opening, 40 ∷ [], c ∷ t)
    else if is_at 58 t then Some (Opening, codes "(?:", drop 1 t)
    else None

-- Quantifier (22.2.1): a `?` behind it says which match comes first, and not whether there is one
abbrev pub lazy_sign : Text → List ℕ
lazy_sign t = if is_at 63 t then 63 ∷ [] else []

abbrev pub after_lazy : Text → Text
after_lazy t = if is_at 63 t then drop 1 t else t

abbrev pub repeated : List ℕ → Text → Option Found
repeated written t = Some (Repetition, written ++ lazy_sign t, after_lazy t)

-- after `{`: counts, or else the brace stands for itself (ExtendedPatternCharacter, B.1.2)
abbrev pub braces_by : Bool → Option ℕ → Text → Option Found
braces_by u None t = if u then None else Some (Item, verbatim 123, t)
braces_by u (Some n) t = if are_in_order t then repeated (123 ∷ flat_map encode_utf8 (take n t)) (drop n t) else None

-- Assertion (22.2.2.4): `\b` and `\B` look at characters of words of ASCII
abbrev pub boundary : Text → Option (List ℕ)
boundary [] = None
boundary (c ∷ t) = if c == 98 then Some (codes "(?-u:\\b)") else if c == 66 then Some (codes "(?-u:\\B)") else None

-- after a backslash
abbrev pub escaped_by : Bool → Option (List ℕ) → Text → Option Found
escaped_by u (Some written) t = Some (Assertion, written, drop 1 t)
escaped_by u None t = option_map {U = Found} (λ p. (Item, atom_bytes p.0, p.1)) (escape u t)

abbrev pub longer_piece : Bool → ℕ → Text → Option Found
longer_piece u c t =
    if c == 40 then opening t
    else if c == 91 then option_map {U = Found} (λ p. (Item, p.0, p.1)) (class u t)
    else if c == 123 then braces_by u (counts_len t) t
    else if c == 92 then escaped_by u (boundary t) t
    else if is_one_of (codes "*+?") c then repeated (c ∷ []) t
    else if c == 46 then Some (Item, set_bytes Dot, t)
    else if u && is_one_of (codes "]}") c then None
    else Some (Item, verbatim c, t)

abbrev pub piece_by : Bool → Option Kind → ℕ → Text → Option Found
piece_by u (Some kind) c t = Some (kind, c ∷ [], t)
piece_by u None c t = longer_piece u c t

-- the piece that begins with the character, as it is written, and what follows
unfoldable pub piece : Bool → ℕ → Text → Option Found
piece u c t = piece_by u (sign c) c t

-- the same, written behind what was written before
abbrev pub behind : List ℕ → Option Found → Option Found
behind out found = option_map {U = Found} (λ p. (p.0, out ++ p.1, p.2)) found
