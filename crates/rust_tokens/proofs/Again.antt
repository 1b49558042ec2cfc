-- The text of tokens that a text has is read to those tokens.
use Rattle.std.proofs.Common.{◌≡◌, ◌+◌, ℕ, Bool, true, false, List, [], ◌∷◌, ◌++◌, cond, map, eqb, ◌&&◌, ◌||◌, drop, length, Some, refl, ap, sym, subst, ◌∙◌, add-one, arith, encode_utf8_all}
use Rattle.std.specs.Char.{is_whitespace}
use Rattle.std.specs.Str.{skip_leading_whitespace, chars, IsUtf8}
use Rattle.std.proofs.lemmas.Bool.{and_parts}
use Rattle.std.proofs.lemmas.Str.{encode_ascii, encodes-append, chars-encodes, scalars-chars}
use Rattle.token_trees.specs.declared.token.Span.{Span}
use Rattle.token_trees.specs.declared.token.Spacing.{Spacing}
use Rattle.token_trees.specs.declared.token.Spacing.TheVariants.{Alone, Joint}
use Rattle.token_trees.specs.Token.{Tok, word, mark, fixed, group, Toks, no_toks, tok, placed, all_placed}
use Rattle.token_trees.specs.Text.{Piece, name, sign, constant, opens, closes, enclosed, pieces, inner_pieces, pieces_of, spelling, is_joint, gap, spaced, text_of}
use Rattle.rust_tokens.specs.Front.{begins_name, is_punctuation, spacing_of, front}
use Rattle.rust_tokens.specs.Reading.{Reads, IsLexed}
use Rattle.rust_tokens.proofs.Readings.{past_reads, reads_past}
use Rattle.rust_tokens.proofs.Whites.{or_case, punctuation_no_white, begins_no_white}
use Rattle.rust_tokens.proofs.Printing.{scalars_append, scalars_drop}
use Rattle.rust_tokens.proofs.Stable.{EndsAt, SignFits, Fits, printed, sign_joint}
use lib.Utf8.{scalar, scalars}

abbrev past : List ℕ → List ℕ
past = skip_leading_whitespace

past_scalars_case : (c : ℕ) (cs : List ℕ) (b : Bool) → scalars (c ∷ cs) ≡ true → scalars (past cs) ≡ true → scalars (cond b (past cs) (c ∷ cs)) ≡ true
past_scalars_case c cs true h k = k
past_scalars_case c cs false h k = h

past_scalars : (cs : List ℕ) → scalars cs ≡ true → scalars (past cs) ≡ true
past_scalars [] h = refl
past_scalars (c ∷ cs) h = past_scalars_case c cs (is_whitespace c) h (past_scalars cs (and_parts (scalar c) (scalars cs) h).1)

past_head_case : (c : ℕ) (cs : List ℕ) (b : Bool) → is_whitespace c ≡ b → ((d : ℕ) (ds : List ℕ) → past cs ≡ d ∷ ds → is_whitespace d ≡ false) → (d : ℕ) (ds : List ℕ) → cond b (past cs) (c ∷ cs) ≡ d ∷ ds → is_whitespace d ≡ false
past_head_case c cs true e h d ds k = h d ds k
past_head_case c cs false e h d ds k = let same : c ≡ d = cc in sym (ap is_whitespace same) ∙ e

-- past white space stands none
past_head : (cs : List ℕ) (d : ℕ) (ds : List ℕ) → past cs ≡ d ∷ ds → is_whitespace d ≡ false
past_head [] d ds e = absurd (cc)
past_head (c ∷ cs) d ds e = past_head_case c cs (is_whitespace c) refl (past_head cs) d ds e

past_solid : (c : ℕ) (cs : List ℕ) → is_whitespace c ≡ false → past (c ∷ cs) ≡ c ∷ cs
past_solid c cs h = ap (λ b. cond b (past cs) (c ∷ cs)) h

-- what comes first past white space comes first in the other characters
abbrev SameHead : List ℕ → List ℕ → Type 0
SameHead cs ks = (c : ℕ) × (ds : List ℕ) × (es : List ℕ) × (past cs ≡ c ∷ ds) × (ks ≡ c ∷ es)

abbrev Heads : List ℕ → List Piece → List ℕ → Type 0
Heads cs [] ks = ks ≡ []
Heads cs (y ∷ ys) ks = SameHead cs ks

record IsAgain (cs : List ℕ) (xs : List Piece) : Type 0 where
  pub codes : List ℕ
  pub bytes : encode_utf8_all codes ≡ spaced true xs
  pub scalar_values : scalars codes ≡ true
  pub reads : Reads codes xs []
  pub heads : Heads cs xs codes

-- the characters between a token and the next
abbrev space_chars : Bool → List ℕ
space_chars true = []
space_chars false = 32 ∷ []

abbrev tail_chars : Bool → List Piece → List ℕ → List ℕ
tail_chars joint [] ks = []
tail_chars joint (y ∷ ys) ks = space_chars joint ++ ks

space_bytes : (b : Bool) (ks : List ℕ) → encode_utf8_all (space_chars b ++ ks) ≡ gap b ++ encode_utf8_all ks
space_bytes true ks = refl
space_bytes false ks = ap (λ l. l ++ encode_utf8_all ks) (encode_ascii 32 (omega arith))

tail_bytes : (b : Bool) (xs : List Piece) (ks : List ℕ) → encode_utf8_all ks ≡ spaced true xs → encode_utf8_all (tail_chars b xs ks) ≡ spaced b xs
tail_bytes b [] ks h = refl
tail_bytes b (y ∷ ys) ks h = space_bytes b ks ∙ ap (λ l. gap b ++ l) h

space_scalars : (b : Bool) (ks : List ℕ) → scalars ks ≡ true → scalars (space_chars b ++ ks) ≡ true
space_scalars true ks h = h
space_scalars false ks h = h

tail_scalars : (b : Bool) (xs : List Piece) (ks : List ℕ) → scalars ks ≡ true → scalars (tail_chars b xs ks) ≡ true
tail_scalars b [] ks h = refl
tail_scalars b (y ∷ ys) ks h = space_scalars b ks h

space_reads : (b : Bool) (xs : List Piece) (ks : List ℕ) → Reads ks xs [] → Reads (space_chars b ++ ks) xs []
space_reads true xs ks h = h
space_reads false xs ks h = reads_past (32 ∷ ks) xs [] (past_reads ks xs [] h)

tail_reads : (b : Bool) (xs : List Piece) (ks : List ℕ) → Reads ks xs [] → Reads (tail_chars b xs ks) xs []
tail_reads b [] ks h = refl
tail_reads b (y ∷ ys) ks h = space_reads b (y ∷ ys) ks h

tail_ends : (xs : List Piece) (ks : List ℕ) → EndsAt (tail_chars false xs ks)
tail_ends [] ks = tt
tail_ends (y ∷ ys) ks = refl

-- after a joint character stands what makes it so
joint_case : (c d : ℕ) (ds : List ℕ) (b : Bool) → (is_punctuation d || ((eqb c 39) && begins_name d)) ≡ b → cond b Joint Alone ≡ Joint → is_whitespace d ≡ false
joint_case c d ds true e h =
    or_case (is_punctuation d) ((eqb c 39) && begins_name d) (is_whitespace d ≡ false) (punctuation_no_white d) (λ k. begins_no_white d (and_parts (eqb c 39) (begins_name d) k).1) e
joint_case c d ds false e h = absurd (cc)

joint_solid : (c d : ℕ) (ds : List ℕ) → spacing_of c (d ∷ ds) ≡ Joint → is_whitespace d ≡ false
joint_solid c d ds h = joint_case c d ds (is_punctuation d || ((eqb c 39) && begins_name d)) refl h

joint_tail : (c : ℕ) (ds : List ℕ) (xs : List Piece) (ks : List ℕ) → spacing_of c ds ≡ Joint → Reads ds xs [] → Heads ds xs ks → spacing_of c (tail_chars true xs ks) ≡ Joint
joint_tail c [] xs ks j r h = absurd (cc)
joint_tail c (d ∷ ds) [] ks j r h = absurd (let solid = past_solid d ds (joint_solid c d ds j) in let bad = r ∙ solid in cc)
joint_tail c (d ∷ ds) (y ∷ ys) ks j r h =
    let solid = past_solid d ds (joint_solid c d ds j) in
    let both : h.0 ∷ h.1 ≡ d ∷ ds = sym h.3 ∙ solid in
    let same : d ≡ h.0 = cc in
    ap (spacing_of c) h.4 ∙ ap (λ x. cond (is_punctuation x || ((eqb c 39) && begins_name x)) Joint Alone) (sym same) ∙ j

sign_tail : (c : ℕ) (j : Spacing) (ds : List ℕ) (xs : List Piece) (ks : List ℕ) → spacing_of c ds ≡ j → Reads ds xs [] → Heads ds xs ks → SignFits j c (tail_chars (is_joint (sign c j)) xs ks)
sign_tail c Alone ds xs ks s r h = tail_ends xs ks
sign_tail c Joint ds xs ks s r h = joint_tail c ds xs ks s r h

fits_tail : (x : Piece) (c : ℕ) (ds : List ℕ) (n : ℕ) (xs : List Piece) (ks : List ℕ) → front (c ∷ ds) ≡ Some (x, n) → Reads (drop n (c ∷ ds)) xs [] → Heads (drop n (c ∷ ds)) xs ks → Fits x c (tail_chars (is_joint x) xs ks)
fits_tail (name v) c ds n xs ks e r h = tail_ends xs ks
fits_tail (constant v) c ds n xs ks e r h = tail_ends xs ks
fits_tail (opens d) c ds n xs ks e r h = tail_ends xs ks
fits_tail (closes d) c ds n xs ks e r h = tail_ends xs ks
fits_tail (sign s j) c ds n xs ks e r h =
    let is = sign_joint c ds s j n e in
    let R : ℕ → Type 0 = λ k. Reads (drop k (c ∷ ds)) xs [] in
    let H : ℕ → Type 0 = λ k. Heads (drop k (c ∷ ds)) xs ks in
    let P : ℕ → Type 0 = λ k. SignFits j c (tail_chars (is_joint (sign k j)) xs ks) in
    subst P is.same (sign_tail c j ds xs ks is.spacing (subst R is.one r) (subst H is.one h))

drop_all : (xs ys : List ℕ) → drop (length xs) (xs ++ ys) ≡ ys
drop_all [] ys = refl
drop_all (x ∷ xs) ys = drop_all xs ys

drop_own : (xs ys : List ℕ) (c : ℕ) → drop (length xs + 1) (c ∷ (xs ++ ys)) ≡ ys
drop_own xs ys c = ap (λ n. drop n (c ∷ (xs ++ ys))) (add-one (length xs)) ∙ drop_all xs ys

again_token : (cs : List ℕ) (x : Piece) (xs : List Piece) (n : ℕ) (c : ℕ) (ds : List ℕ) → past cs ≡ c ∷ ds → scalars (c ∷ ds) ≡ true → front (c ∷ ds) ≡ Some (x, n) → Reads (drop n (c ∷ ds)) xs []
    → IsAgain (drop n (c ∷ ds)) xs → IsAgain cs (x ∷ xs)
again_token cs x xs n c ds p h e r a =
    let one = printed c ds x n h e in
    let tail = tail_chars (is_joint x) xs a.codes in
    let solid = past_solid c (one.more ++ tail) (past_head cs c ds p) in
    let R : List ℕ → Type 0 = λ q. Reads q xs [] in
    let D : List ℕ → Type 0 = λ q. Reads (drop (length one.more + 1) q) xs [] in
    record {
      codes = c ∷ (one.more ++ tail);
      bytes = encodes-append (c ∷ one.more) tail ∙ ap (λ l. l ++ encode_utf8_all tail) one.bytes ∙ ap (λ l. spelling x ++ l) (tail_bytes (is_joint x) xs a.codes a.bytes);
      scalar_values = scalars_append (c ∷ one.more) tail one.scalar_values (tail_scalars (is_joint x) xs a.codes a.scalar_values);
      reads = (
        length one.more + 1,
        ap front solid ∙ one.reads tail (fits_tail x c ds n xs a.codes e r a.heads),
        subst D (sym solid) (subst R (sym (drop_own one.more tail c)) (tail_reads (is_joint x) xs a.codes a.reads)),
      );
      heads = (c, ds, one.more ++ tail, p, refl);
    }

again_case : (cs : List ℕ) (x : Piece) (xs : List Piece) (n : ℕ) (q : List ℕ) → past cs ≡ q → scalars q ≡ true → front q ≡ Some (x, n) → Reads (drop n q) xs [] → ((ds : List ℕ) → scalars ds ≡ true → Reads ds xs [] → IsAgain ds xs) → IsAgain cs (x ∷ xs)
again_case cs x xs n [] p h e r rec = absurd (cc)
again_case cs x xs n (c ∷ ds) p h e r rec =
    again_token cs x xs n c ds p h e r (rec (drop n (c ∷ ds)) (scalars_drop n (c ∷ ds) h) r)

again : (xs : List Piece) (cs : List ℕ) → scalars cs ≡ true → Reads cs xs [] → IsAgain cs xs
again [] cs h r = record { codes = []; bytes = refl; scalar_values = refl; reads = refl; heads = refl }
again (x ∷ xs) cs h r =
    again_case cs x xs r.0 (past cs) refl (past_scalars cs h) r.1 r.2 (λ ds k s. again xs ds k s)

-- spans do not show
mutual
  placed_pieces : (s : Span) (t : Tok) → pieces (placed s t) ≡ pieces t
  placed_pieces s (word x _) = refl
  placed_pieces s (mark c j _) = refl
  placed_pieces s (fixed l _) = refl
  placed_pieces s (group d ts _) = ap (enclosed d) (placed_inner s ts)

  placed_inner : (s : Span) (ts : Toks) → inner_pieces (all_placed s ts) ≡ inner_pieces ts
  placed_inner s no_toks = refl
  placed_inner s (tok t ts) = ap (λ xs. xs ++ inner_pieces (all_placed s ts)) (placed_pieces s t) ∙ ap (λ xs. pieces t ++ xs) (placed_inner s ts)

placed_all : (s : Span) (ts : List Tok) → pieces_of (map (placed s) ts) ≡ pieces_of ts
placed_all s [] = refl
placed_all s (t ∷ ts) = ap (λ xs. xs ++ pieces_of (map (placed s) ts)) (placed_pieces s t) ∙ ap (λ xs. pieces t ++ xs) (placed_all s ts)

-- the text of trees that a text has, spans aside, has those trees
pub printed_is_read_again : (bs : List ℕ) (s : Span) (ts : List Tok) → IsUtf8 bs → IsLexed (chars bs) s (map (placed s) ts) → IsLexed (chars (text_of ts)) s (map (placed s) ts)
printed_is_read_again bs s ts u h =
    let a = again (pieces_of (map (placed s) ts)) (chars bs) (scalars-chars bs u) h.read in
    let same : a.codes ≡ chars (text_of ts) =
    sym (chars-encodes a.codes a.scalar_values) ∙ ap chars (a.bytes ∙ ap (spaced true) (placed_all s ts)) in
    let P : List ℕ → Type 0 = λ q. Reads q (pieces_of (map (placed s) ts)) [] in
    record { read = subst P same a.reads; written = h.written }
