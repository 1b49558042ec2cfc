-- Trees that some text has: those of two texts, those of a group, and the signs and words that printing adds.
use Rattle.std.proofs.Common.{◌≡◌, ◌+◌, ℕ, Bool, true, false, List, [], ◌∷◌, ◌++◌, cond, eqb, ◌||◌, map, take, drop, Option, Some, None, refl, ap, sym, subst, ◌∙◌, append-nil, encode_utf8_all}
use Rattle.std.specs.Prelude.{codes, option_map}
use Rattle.std.specs.Char.{is_ascii_digit}
use Rattle.std.specs.Str.{chars, skip_leading_whitespace}
use Rattle.std.proofs.lemmas.Str.{chars-encodes, scalars-chars}
use Rattle.unicode_ident.proofs.Computing.{unicode_ident}
use Rattle.token_trees.specs.declared.token.Span.{Span}
use Rattle.token_trees.specs.declared.token.Delimiter.{Delimiter}
use Rattle.token_trees.specs.declared.token.Delimiter.TheVariants.{Parenthesis, Brace, Bracket, None as hidden}
use Rattle.token_trees.specs.declared.token.Spacing.TheVariants.{Alone, Joint}
use Rattle.token_trees.specs.Token.{text, Tok, word, mark, fixed, group, Toks, no_toks, tok, toks_of, placed, all_placed, site}
use Rattle.token_trees.specs.Text.{Piece, name, sign as punctuation, constant, opens, closes, enclosed, pieces, inner_pieces, pieces_of}
use Rattle.token_trees.proofs.Texts.{inner_pieces_of, pieces_of_append, enclosed_shown}
use Rattle.rust_tokens.specs.Front.{begins_name, is_punctuation, name_len, body, bracket, front}
use Rattle.rust_tokens.specs.Reading.{Reads, IsWritten, AreWritten}
use Rattle.rust_tokens.proofs.Readings.{same_front, past_reads}
use Rattle.syntax_trees.specs.Syntax.{LifetimeD}
use Rattle.syntax_printing.specs.Print.{sign, keyword, colons, arrow, print_lifetime, print_name, when}
use Rattle.syntax_laws.specs.RoundTrip.{AreOfText}
use Rattle.printing_laws.specs.Parts.{LifetimeParts}
use Rattle.printing_laws.proofs.Joined.{HasText, joined, past_scalars}
use lib.Utf8.{encode, scalars}

-- ---- spans

-- spans do not show
mutual
  placed_pieces : (s : Span) (t : Tok) → pieces (placed s t) ≡ pieces t
  placed_pieces s (word x _) = refl
  placed_pieces s (mark c j _) = refl
  placed_pieces s (fixed l _) = refl
  placed_pieces s (group d ts _) = ap (enclosed d) (placed_inner s ts)

  placed_inner : (s : Span) (ts : Toks) → inner_pieces (all_placed s ts) ≡ inner_pieces ts
  placed_inner s no_toks = refl
  placed_inner s (tok t ts) = ap (λ xs. xs ++ inner_pieces (all_placed s ts)) (placed_pieces s t) ∙ ap (λ xs. pieces t ++ xs) (placed_inner s ts)

placed_all : (s : Span) (ts : List Tok) → pieces_of (map (placed s) ts) ≡ pieces_of ts
placed_all s [] = refl
placed_all s (t ∷ ts) = ap (λ xs. xs ++ pieces_of (map (placed s) ts)) (placed_pieces s t) ∙ ap (λ xs. pieces t ++ xs) (placed_all s ts)

-- and may be others
mutual
  written_moved : (s u : Span) (t : Tok) → IsWritten s (placed s t) → IsWritten u (placed u t)
  written_moved s u (word x _) h = refl
  written_moved s u (mark c j _) h = refl
  written_moved s u (fixed l _) h = refl
  written_moved s u (group d ts _) h = (h.0, refl, toks_written s u ts h.2)

  toks_written : (s u : Span) (ts : Toks) → AreWritten s (all_placed s ts) → AreWritten u (all_placed u ts)
  toks_written s u no_toks h = tt
  toks_written s u (tok t ts) h = (written_moved s u t h.0, toks_written s u ts h.1)

-- the trees at the tree's own place
abbrev at_site : List Tok → Toks
at_site ts = toks_of (map (placed site) ts)

all_written : (s : Span) (ts : List Tok) → AreWritten s (toks_of (map (placed s) ts)) → AreWritten site (at_site ts)
all_written s [] h = tt
all_written s (t ∷ ts) h = (written_moved s site t h.0, all_written s ts h.1)

inner_at_site : (ts : List Tok) → at_site ts ≡ all_placed site (toks_of ts)
inner_at_site [] = refl
inner_at_site (t ∷ ts) = ap (tok (placed site t)) (inner_at_site ts)

-- ---- texts as characters

-- some characters are the trees' tokens, and each group shows
record OfText (ts : List Tok) : Type 0 where
  pub has : HasText (pieces_of ts)
  pub written : AreWritten site (at_site ts)

of_text : (ts : List Tok) → AreOfText ts → OfText ts
of_text ts h = record {
  has = record { codes = chars h.0; scalar_values = scalars-chars h.0 h.2; reads = subst (λ xs. Reads (chars h.0) xs []) (placed_all h.1 ts) h.3.read };
  written = all_written h.1 ts h.3.written;
}

are_of_text : (ts : List Tok) → OfText ts → AreOfText ts
are_of_text ts t =
    let cs = t.has.codes in (
      encode_utf8_all cs,
      site,
      (cs, (t.has.scalar_values, refl)),
      record {
        read = subst (λ ks. Reads ks (pieces_of (map (placed site) ts)) []) (sym (chars-encodes cs t.has.scalar_values)) (subst (λ xs. Reads cs xs []) (sym (placed_all site ts)) t.has.reads);
        written = t.written;
      },
    )

-- trees whose tokens those characters are
pub from_codes : (ts : List Tok) (cs : List ℕ) → scalars cs ≡ true → Reads cs (pieces_of ts) [] → AreWritten site (at_site ts) → AreOfText ts
from_codes ts cs h r w = are_of_text ts (record { has = record { codes = cs; scalar_values = h; reads = r }; written = w })

-- ---- trees of two texts

pub none_written : AreOfText []
none_written = from_codes [] [] refl refl tt

both_written : (ts us : List Tok) → AreWritten site (at_site ts) → AreWritten site (at_site us) → AreWritten site (at_site (ts ++ us))
both_written [] us h k = k
both_written (t ∷ ts) us h k = (h.0, both_written ts us h.1 k)

pub join : (ts us : List Tok) → AreOfText ts → AreOfText us → AreOfText (ts ++ us)
join ts us h k =
    let a = of_text ts h in
    let b = of_text us k in
    are_of_text (ts ++ us) (record { has = subst HasText (sym (pieces_of_append ts us)) (joined (pieces_of ts) (pieces_of us) a.has b.has); written = both_written ts us a.written b.written })

pub before : (t : Tok) (us : List Tok) → AreOfText (t ∷ []) → AreOfText us → AreOfText (t ∷ us)
before t us h k = join (t ∷ []) us h k

pub when_written : (b : Bool) (ts : List Tok) → AreOfText ts → AreOfText (when b ts)
when_written true ts h = h
when_written false ts h = none_written

-- ---- groups

abbrev Shows : Delimiter → Type 0
Shows d = d ≡ hidden → ⊥

opening_text : (d : Delimiter) → Shows d → HasText (opens d ∷ [])
unfolding unicode_ident
opening_text Parenthesis h = record { codes = 40 ∷ []; scalar_values = refl; reads = (1, refl, refl) }
opening_text Brace h = record { codes = 123 ∷ []; scalar_values = refl; reads = (1, refl, refl) }
opening_text Bracket h = record { codes = 91 ∷ []; scalar_values = refl; reads = (1, refl, refl) }
opening_text hidden h = absurd (h refl)

closing_text : (d : Delimiter) → Shows d → HasText (closes d ∷ [])
unfolding unicode_ident
closing_text Parenthesis h = record { codes = 41 ∷ []; scalar_values = refl; reads = (1, refl, refl) }
closing_text Brace h = record { codes = 125 ∷ []; scalar_values = refl; reads = (1, refl, refl) }
closing_text Bracket h = record { codes = 93 ∷ []; scalar_values = refl; reads = (1, refl, refl) }
closing_text hidden h = absurd (h refl)

group_pieces : (d : Delimiter) (ts : List Tok) (s : Span) → Shows d → pieces_of (group d (toks_of ts) s ∷ []) ≡ opens d ∷ (pieces_of ts ++ closes d ∷ [])
group_pieces d ts s h = append-nil (enclosed d (inner_pieces (toks_of ts))) ∙ enclosed_shown d (inner_pieces (toks_of ts)) h ∙ ap (λ xs. opens d ∷ (xs ++ closes d ∷ [])) (inner_pieces_of ts)

group_written : (d : Delimiter) (ts : List Tok) (s : Span) → Shows d → AreOfText ts → AreOfText (group d (toks_of ts) s ∷ [])
group_written d ts s h k =
    let a = of_text ts k in
    are_of_text (group d (toks_of ts) s ∷ []) (record {
      has = subst HasText (sym (group_pieces d ts s h)) (joined (opens d ∷ []) (pieces_of ts ++ closes d ∷ []) (opening_text d h) (joined (pieces_of ts) (closes d ∷ []) a.has (closing_text d h)));
      written = ((h, refl, subst (AreWritten site) (inner_at_site ts) a.written), tt);
    })

pub parens_written : (ts : List Tok) → AreOfText ts → AreOfText (group Parenthesis (toks_of ts) site ∷ [])
parens_written ts h = group_written Parenthesis ts site (λ e. (cc)) h

pub brackets_written : (ts : List Tok) → AreOfText ts → AreOfText (group Bracket (toks_of ts) site ∷ [])
brackets_written ts h = group_written Bracket ts site (λ e. (cc)) h

-- ---- lifetimes

abbrev Read : Type 0
Read = Option (Piece × ℕ)

abbrev NoName : Read → Type 0
NoName r = (x : List ℕ) (n : ℕ) → r ≡ Some (name x, n) → ⊥

other_piece : (p : Piece) (m : ℕ) → ((x : List ℕ) → p ≡ name x → ⊥) → NoName (Some (p, m))
other_piece p m h x n e = h x (same_front (p, m) (name x, n) e).0

nothing : NoName None
nothing x n e = cc

either_no : (b : Bool) (r q : Read) → NoName r → NoName q → NoName (cond b r q)
either_no true r q h k = h
either_no false r q h k = k

otherwise : (b : Bool) (r q : Read) (x : List ℕ) (n : ℕ) (P : Type 0) → NoName r → (q ≡ Some (name x, n) → P) → cond b r q ≡ Some (name x, n) → P
otherwise true r q x n P h k e = absurd (h x n e)
otherwise false r q x n P h k e = k e

bracket_no : (c : ℕ) → NoName (bracket c)
bracket_no c =
    either_no (eqb c 40) _ _ (other_piece _ _ (λ x k. cc)) (either_no (eqb c 41) _ _ (other_piece _ _ (λ x k. cc)) (either_no (eqb c 91) _ _ (other_piece _ _ (λ x k. cc))
    (either_no (eqb c 93) _ _ (other_piece _ _ (λ x k. cc)) (either_no (eqb c 123) _ _ (other_piece _ _ (λ x k. cc)) (either_no (eqb c 125) _ _ (other_piece _ _ (λ x k. cc)) nothing)))))

abbrev found_string : List ℕ → List ℕ × ℕ → Piece × ℕ
found_string cs r =
    let after = drop r.1 cs in
    (constant (text r.0 (encode_utf8_all (take (name_len after) after))), r.1 + name_len after + 1)

string_no : (cs : List ℕ) (r : Option (List ℕ × ℕ)) → NoName (option_map (found_string cs) r)
string_no cs None = nothing
string_no cs (Some q) = other_piece _ _ (λ x k. cc)

begins : (b : Bool) (r q : Read) (x : List ℕ) (n : ℕ) → NoName q → cond b r q ≡ Some (name x, n) → b ≡ true
begins true r q x n h e = refl
begins false r q x n h e = absurd (h x n e)

-- an identifier begins with what an identifier begins with
name_begins : (c : ℕ) (cs : List ℕ) (x : List ℕ) (n : ℕ) → front (c ∷ cs) ≡ Some (name x, n) → begins_name c ≡ true
name_begins c cs x n =
    otherwise (is_ascii_digit c) _ _ x n (begins_name c ≡ true) (other_piece _ _ (λ x k. cc))
    (otherwise (eqb c 34) _ _ x n (begins_name c ≡ true) (string_no cs (body 0 cs))
    (otherwise (is_punctuation c) _ _ x n (begins_name c ≡ true) (other_piece _ _ (λ x k. cc))
    (begins (begins_name c) _ (bracket c) x n (bracket_no c))))

or_true : (b : Bool) → (b || true) ≡ true
or_true true = refl
or_true false = refl

quote_joint : (c : ℕ) (cs : List ℕ) → begins_name c ≡ true → front (39 ∷ c ∷ cs) ≡ Some (punctuation 39 Joint, 1)
quote_joint c cs h = ap (λ b. Some (punctuation 39 (cond (is_punctuation c || b) Joint Alone), 1)) h ∙ ap (λ b. Some (punctuation 39 (cond b Joint Alone), 1)) (or_true (is_punctuation c))

quoted : (x : List ℕ) (n : ℕ) (cs : List ℕ) → scalars cs ≡ true → front cs ≡ Some (name x, n) → Reads cs (name x ∷ []) [] → HasText (punctuation 39 Joint ∷ name x ∷ [])
quoted x n [] h e r = absurd (cc)
quoted x n (c ∷ cs) h e r = record { codes = 39 ∷ c ∷ cs; scalar_values = h; reads = (1, quote_joint c cs (name_begins c cs x n e), r) }

-- an identifier may stand at once behind a quote
pub lifetime_written : (l : LifetimeD) → LifetimeParts l → AreOfText (print_lifetime l)
lifetime_written l h =
    let name_text = (of_text (print_name l.name ∷ []) h).has in
    let cs = skip_leading_whitespace name_text.codes in
    are_of_text (print_lifetime l) (record {
      has = quoted l.name.text name_text.reads.0 cs (past_scalars name_text.codes name_text.scalar_values) name_text.reads.1 (past_reads name_text.codes (name l.name.text ∷ []) [] name_text.reads);
      written = (refl, (refl, tt));
    })

-- ---- the signs and words that printing adds

pub plus : AreOfText (sign 43 ∷ [])
plus = from_codes (sign 43 ∷ []) (43 ∷ []) refl (1, refl, refl) (refl, tt)

pub star : AreOfText (sign 42 ∷ [])
star = from_codes (sign 42 ∷ []) (42 ∷ []) refl (1, refl, refl) (refl, tt)

pub ampersand : AreOfText (sign 38 ∷ [])
ampersand = from_codes (sign 38 ∷ []) (38 ∷ []) refl (1, refl, refl) (refl, tt)

pub comma : AreOfText (sign 44 ∷ [])
comma = from_codes (sign 44 ∷ []) (44 ∷ []) refl (1, refl, refl) (refl, tt)

pub full_stop : AreOfText (sign 46 ∷ [])
full_stop = from_codes (sign 46 ∷ []) (46 ∷ []) refl (1, refl, refl) (refl, tt)

pub semicolon : AreOfText (sign 59 ∷ [])
semicolon = from_codes (sign 59 ∷ []) (59 ∷ []) refl (1, refl, refl) (refl, tt)

pub colon : AreOfText (sign 58 ∷ [])
colon = from_codes (sign 58 ∷ []) (58 ∷ []) refl (1, refl, refl) (refl, tt)

pub equals : AreOfText (sign 61 ∷ [])
equals = from_codes (sign 61 ∷ []) (61 ∷ []) refl (1, refl, refl) (refl, tt)

pub less : AreOfText (sign 60 ∷ [])
less = from_codes (sign 60 ∷ []) (60 ∷ []) refl (1, refl, refl) (refl, tt)

pub greater : AreOfText (sign 62 ∷ [])
greater = from_codes (sign 62 ∷ []) (62 ∷ []) refl (1, refl, refl) (refl, tt)

pub exclamation : (s : Span) → AreOfText (mark 33 Alone s ∷ [])
exclamation s = from_codes (mark 33 Alone s ∷ []) (33 ∷ []) refl (1, refl, refl) (refl, tt)

pub colons_written : AreOfText colons
colons_written = from_codes colons (58 ∷ 58 ∷ []) refl (1, refl, (1, refl, refl)) (refl, (refl, tt))

pub arrow_written : AreOfText arrow
arrow_written = from_codes arrow (45 ∷ 62 ∷ []) refl (1, refl, (1, refl, refl)) (refl, (refl, tt))

pub underscore : (s : Span) → AreOfText (word (codes "_") s ∷ [])
unfolding unicode_ident encode
underscore s = from_codes (word (codes "_") s ∷ []) (codes "_") refl (1, refl, refl) (refl, tt)

pub as_written : AreOfText (keyword (codes "as") ∷ [])
unfolding unicode_ident encode
as_written = from_codes (keyword (codes "as") ∷ []) (codes "as") refl (2, refl, refl) (refl, tt)

pub fn_written : AreOfText (keyword (codes "fn") ∷ [])
unfolding unicode_ident encode
fn_written = from_codes (keyword (codes "fn") ∷ []) (codes "fn") refl (2, refl, refl) (refl, tt)

pub dyn_written : AreOfText (keyword (codes "dyn") ∷ [])
unfolding unicode_ident encode
dyn_written = from_codes (keyword (codes "dyn") ∷ []) (codes "dyn") refl (3, refl, refl) (refl, tt)

pub impl_written : AreOfText (keyword (codes "impl") ∷ [])
unfolding unicode_ident encode
impl_written = from_codes (keyword (codes "impl") ∷ []) (codes "impl") refl (4, refl, refl) (refl, tt)

pub mut_written : AreOfText (keyword (codes "mut") ∷ [])
unfolding unicode_ident encode
mut_written = from_codes (keyword (codes "mut") ∷ []) (codes "mut") refl (3, refl, refl) (refl, tt)

pub const_written : AreOfText (keyword (codes "const") ∷ [])
unfolding unicode_ident encode
const_written = from_codes (keyword (codes "const") ∷ []) (codes "const") refl (5, refl, refl) (refl, tt)
