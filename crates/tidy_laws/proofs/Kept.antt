-- The tokens of a tidied text, one after another.
use Rattle.std.proofs.Common.{◌≡◌, ◌+◌, ℕ, Bool, true, false, true≢false, not, List, [], ◌∷◌, ◌++◌, cond, map, eqb, ◌&&◌, ◌||◌, drop, length, Some, inl, inr, refl, ap, sym, subst, ◌∙◌, add-one, append_assoc, append-nil, arith, encode_utf8_all}
use Rattle.std.specs.List.{AllByRecursion}
use Rattle.std.specs.Char.{is_whitespace}
use Rattle.std.specs.Str.{skip_leading_whitespace, chars, IsUtf8}
use Rattle.std.proofs.lemmas.Bool.{and_parts}
use Rattle.std.proofs.lemmas.Bool.Decides.{eqb_tells}
use Rattle.std.proofs.lemmas.Str.{encode_ascii, encodes-append, chars-encodes, scalars-chars}
use Rattle.token_trees.specs.Text.{Piece, name, sign, constant, opens, closes, spelling, is_joint, gap, spaced}
use Rattle.rust_tokens.specs.Front.{front}
use Rattle.rust_tokens.specs.Reading.{Reads}
use Rattle.rust_tokens.proofs.Readings.{past_reads, reads_past}
use Rattle.rust_tokens.proofs.Whites.{or_case}
use Rattle.rust_tokens.proofs.Printing.{scalars_append, scalars_drop}
use Rattle.tidy_texts.specs.declared.spot.Before.{Before}
use Rattle.tidy_texts.specs.declared.spot.Before.TheVariants.{Open, Name, Other, Literal, Escape}
use Rattle.tidy_texts.specs.Tidy.{before_of, is_inside, is_end, is_call, wants_space, spot, start, tidied, tidy}
use Rattle.tidy_laws.specs.Laws.{bare, HasTokens, IsToken, TidyKeepsTokens}
use Rattle.tidy_laws.proofs.Classes.{IsStop, blank_stops, end_stops, call_stops}
use Rattle.tidy_laws.proofs.Codes.{lead, codes_from, step, blank, bytes_are, scalars_kept}
use Rattle.tidy_laws.proofs.Tokens.{Stops, MayFollow, Leaves, is_closed, token}
use lib.Utf8.{scalar, scalars}

abbrev past : List ℕ → List ℕ
past = skip_leading_whitespace

-- ---- white space before a token

past_scalars_case : (c : ℕ) (cs : List ℕ) (b : Bool) → scalars (c ∷ cs) ≡ true → scalars (past cs) ≡ true → scalars (cond b (past cs) (c ∷ cs)) ≡ true
past_scalars_case c cs true h k = k
past_scalars_case c cs false h k = h

past_scalars : (cs : List ℕ) → scalars cs ≡ true → scalars (past cs) ≡ true
past_scalars [] h = refl
past_scalars (c ∷ cs) h = past_scalars_case c cs (is_whitespace c) h (past_scalars cs (and_parts (scalar c) (scalars cs) h).1)

past_head_case : (c : ℕ) (cs : List ℕ) (b : Bool) → is_whitespace c ≡ b → ((d : ℕ) (ds : List ℕ) → past cs ≡ d ∷ ds → is_whitespace d ≡ false) → (d : ℕ) (ds : List ℕ) → cond b (past cs) (c ∷ cs) ≡ d ∷ ds → is_whitespace d ≡ false
past_head_case c cs true e h d ds k = h d ds k
past_head_case c cs false e h d ds k = let same : c ≡ d = cc in sym (ap is_whitespace same) ∙ e

past_head : (cs : List ℕ) (d : ℕ) (ds : List ℕ) → past cs ≡ d ∷ ds → is_whitespace d ≡ false
past_head [] d ds e = absurd (cc)
past_head (c ∷ cs) d ds e = past_head_case c cs (is_whitespace c) refl (past_head cs) d ds e

past_solid : (c : ℕ) (cs : List ℕ) → is_whitespace c ≡ false → past (c ∷ cs) ≡ c ∷ cs
past_solid c cs h = ap (λ b. cond b (past cs) (c ∷ cs)) h

white_blank : is_whitespace 32 ≡ true
white_blank = refl

no_blank : (d : ℕ) → is_whitespace d ≡ false → eqb d 32 ≡ false
no_blank d h = elim (eqb_tells d 32) [ inl same ↦ absurd (true≢false (sym white_blank ∙ sym (ap is_whitespace same.1) ∙ h)) | inr other ↦ other.0 ]

lead_reads : (b : Bool) (ks : List ℕ) (xs : List Piece) (rest : List ℕ) → Reads ks xs rest → Reads (lead b ++ ks) xs rest
lead_reads true ks xs rest h = reads_past (32 ∷ ks) xs rest (past_reads ks xs rest h)
lead_reads false ks xs rest h = h

-- ---- what comes behind a token

-- no token, or one that begins with no white space
abbrev Begins : List Piece → List ℕ → Type 0
Begins [] ks = ks ≡ []
Begins (x ∷ xs) ks = (c : ℕ) × (es : List ℕ) × (ks ≡ c ∷ es) × (is_whitespace c ≡ false)

abbrev space_codes : Bool → List ℕ
space_codes true = []
space_codes false = 32 ∷ []

abbrev tail_codes : Bool → List Piece → List ℕ → List ℕ
tail_codes joint [] ks = []
tail_codes joint (y ∷ ys) ks = space_codes joint ++ ks

space_bytes : (b : Bool) (ks : List ℕ) → encode_utf8_all (space_codes b ++ ks) ≡ gap b ++ encode_utf8_all ks
space_bytes true ks = refl
space_bytes false ks = ap (λ l. l ++ encode_utf8_all ks) (encode_ascii 32 (omega arith))

tail_bytes : (b : Bool) (xs : List Piece) (ks : List ℕ) → encode_utf8_all ks ≡ spaced true xs → encode_utf8_all (tail_codes b xs ks) ≡ spaced b xs
tail_bytes b [] ks h = refl
tail_bytes b (y ∷ ys) ks h = space_bytes b ks ∙ ap (λ l. gap b ++ l) h

space_scalars : (b : Bool) (ks : List ℕ) → scalars ks ≡ true → scalars (space_codes b ++ ks) ≡ true
space_scalars true ks h = h
space_scalars false ks h = h

tail_scalars : (b : Bool) (xs : List Piece) (ks : List ℕ) → scalars ks ≡ true → scalars (tail_codes b xs ks) ≡ true
tail_scalars b [] ks h = refl
tail_scalars b (y ∷ ys) ks h = space_scalars b ks h

-- tidied
space_tidied : (b : Before) → is_inside b ≡ false → (joint : Bool) (ks : List ℕ) → codes_from (spot b false) (space_codes joint ++ ks) ≡ codes_from (spot b (not joint)) ks
space_tidied b o true ks = refl
space_tidied b o false ks = blank b o ks

tail_tidied : (b : Before) → is_inside b ≡ false → (joint : Bool) (xs : List Piece) (ks : List ℕ) → Begins xs ks → codes_from (spot b false) (tail_codes joint xs ks) ≡ codes_from (spot b (not joint)) ks
tail_tidied b o joint [] ks h = ap (λ l. codes_from (spot b (not joint)) l) (sym h)
tail_tidied b o joint (y ∷ ys) ks h = space_tidied b o joint ks

closed_outside : (b : Before) → is_closed b ≡ true → is_inside b ≡ false
closed_outside Open h = refl
closed_outside Name h = refl
closed_outside Other h = refl
closed_outside Literal h = absurd (true≢false (sym h))
closed_outside Escape h = absurd (true≢false (sym h))

not_case : (b : Bool) → not b ≡ false → b ≡ true
not_case true h = refl
not_case false h = absurd (true≢false h)

-- where no space is left, what follows stops a name
unspaced_stops : (b : Before) → is_closed b ≡ true → (d : ℕ) → wants_space b d ≡ false → IsStop d
unspaced_stops Open k d h = absurd (true≢false (sym k))
unspaced_stops Name k d h = or_case (is_end d) (is_call d) (IsStop d) (end_stops d) (call_stops d) (not_case (is_end d || is_call d) h)
unspaced_stops Other k d h = end_stops d (not_case (is_end d) h)
unspaced_stops Literal k d h = absurd (true≢false (sym k))
unspaced_stops Escape k d h = absurd (true≢false (sym k))

lead_stops : (w : Bool) (d : ℕ) (ks t : List ℕ) → (w ≡ false → IsStop d) → Stops ((lead w ++ (d ∷ ks)) ++ t)
lead_stops true d ks t h = blank_stops
lead_stops false d ks t h = h refl

behind_stops : (b : Before) → is_closed b ≡ true → (xs : List Piece) (ks : List ℕ) → Begins xs ks → (t : List ℕ) → Stops t → Stops (codes_from (spot b true) ks ++ t)
behind_stops b k [] ks h t s = let S : List ℕ → Type 0 = Stops in subst S (ap (λ l. codes_from (spot b true) l ++ t) (sym h)) s
behind_stops b k (x ∷ xs) ks h t s =
    let d = h.0 in
    let es = h.1 in
    let S : List ℕ → Type 0 = Stops in
    subst S (ap (λ l. l ++ t) (sym (ap (λ l. codes_from (spot b true) l) h.2 ∙ step b (closed_outside b k) true d es (no_blank d h.3))))
    (lead_stops (wants_space b d) d (codes_from (spot (before_of d) false) es) t (unspaced_stops b k d))

-- it leaves no literal open
leaves_outside : (x : Piece) (b : Before) → Leaves x b → is_inside b ≡ false
leaves_outside (name _) b l = closed_outside b l
leaves_outside (constant _) b l = closed_outside b l
leaves_outside (sign _ _) b l = l
leaves_outside (opens _) b l = l
leaves_outside (closes _) b l = l

follows : (x : Piece) (b : Before) → Leaves x b → (xs : List Piece) (ks : List ℕ) → Begins xs ks → (t : List ℕ) → Stops t → MayFollow x (codes_from (spot b (not (is_joint x))) ks ++ t)
follows (name _) b l xs ks h t s = behind_stops b l xs ks h t s
follows (constant _) b l xs ks h t s = behind_stops b l xs ks h t s
follows (sign _ _) b l xs ks h t s = tt
follows (opens _) b l xs ks h t s = tt
follows (closes _) b l xs ks h t s = tt

-- ---- all of them

drop_all : (xs ys : List ℕ) → drop (length xs) (xs ++ ys) ≡ ys
drop_all [] ys = refl
drop_all (x ∷ xs) ys = drop_all xs ys

drop_own : (xs ys : List ℕ) (c : ℕ) → drop (length xs + 1) (c ∷ (xs ++ ys)) ≡ ys
drop_own xs ys c = ap (λ n. drop n (c ∷ (xs ++ ys))) (add-one (length xs)) ∙ drop_all xs ys

-- the characters before t are those tokens, the spacing aside
abbrev pub Keeps : List ℕ → List Piece → List ℕ → Type 0
Keeps ks xs t = (ys : List Piece) × Reads (ks ++ t) ys (past t) × (map bare ys ≡ map bare xs)

-- so are those of the text, whatever may follow a name behind it
pub record IsRead (text : List ℕ) (xs : List Piece) : Type 0 where
  pub codes : List ℕ
  pub bytes : encode_utf8_all codes ≡ text
  pub scalar_values : scalars codes ≡ true
  pub reads : (t : List ℕ) → Stops t → Keeps codes xs t

record IsKept (xs : List Piece) : Type 0 where
  pub codes : List ℕ
  pub bytes : encode_utf8_all codes ≡ spaced true xs
  pub scalar_values : scalars codes ≡ true
  pub begins : Begins xs codes
  pub kept : (b : Before) (g : Bool) → is_inside b ≡ false → (t : List ℕ) → Stops t → Keeps (codes_from (spot b g) codes) xs t

one_more : (x : Piece) (xs : List Piece) (n : ℕ) (c : ℕ) (ds : List ℕ) → is_whitespace c ≡ false → scalars (c ∷ ds) ≡ true → front (c ∷ ds) ≡ Some (x, n) → IsKept xs → IsKept (x ∷ xs)
one_more x xs n c ds w h e a =
    let one = token c ds x n h e in
    let joint = is_joint x in
    let tail = tail_codes joint xs a.codes in
    let o = leaves_outside x one.behind one.leaves in
    let left = codes_from (spot one.behind (not joint)) a.codes in
    record {
      codes = c ∷ (one.more ++ tail);
      bytes = encodes-append (c ∷ one.more) tail ∙ ap (λ l. l ++ encode_utf8_all tail) one.bytes ∙ ap (λ l. spelling x ++ l) (tail_bytes joint xs a.codes a.bytes);
      scalar_values = scalars_append (c ∷ one.more) tail one.scalar_values (tail_scalars joint xs a.codes a.scalar_values);
      begins = (c, one.more ++ tail, refl, w);
      kept = λ b g out t s.
          let rest = a.kept one.behind (not joint) o t s in
          let first = one.reads (left ++ t) (follows x one.behind one.leaves xs a.codes a.begins t s) in
          let due = g && wants_space b c in
          let whole : codes_from (spot b g) (c ∷ (one.more ++ tail)) ++ t ≡ lead due ++ (c ∷ (one.more ++ (left ++ t))) =
          ap (λ l. l ++ t) (step b out g c (one.more ++ tail) (no_blank c w)
          ∙ ap (λ l. lead due ++ (c ∷ l)) (one.kept tail ∙ ap (λ l. one.more ++ l) (tail_tidied one.behind o joint xs a.codes a.begins)))
          ∙ append_assoc (lead due) (c ∷ (one.more ++ left)) t ∙ ap (λ l. lead due ++ (c ∷ l)) (append_assoc one.more left t) in
          let solid = past_solid c (one.more ++ (left ++ t)) w in
          let D : List ℕ → Type 0 = λ q. Reads (drop (length one.more + 1) q) rest.0 (past t) in
          let R : List ℕ → Type 0 = λ q. Reads q rest.0 (past t) in
          let W : List ℕ → Type 0 = λ q. Reads q (first.0 ∷ rest.0) (past t) in (
            first.0 ∷ rest.0,
            subst W (sym whole) (lead_reads due (c ∷ (one.more ++ (left ++ t))) (first.0 ∷ rest.0) (past t) (
              length one.more + 1,
              ap front solid ∙ first.1,
              subst D (sym solid) (subst R (sym (drop_own one.more (left ++ t) c)) rest.1),
            )),
            (λ i. first.2 i ∷ rest.2 i),
          );
    }

abbrev pub ArePieces : List Piece → Type 0
ArePieces xs = AllByRecursion IsToken xs

piece_case : (cs : List ℕ) (x : Piece) (n : ℕ) (q : List ℕ) → past cs ≡ q → scalars q ≡ true → front q ≡ Some (x, n) → IsToken x
piece_case cs x n [] p h e = absurd (cc)
piece_case cs x n (c ∷ ds) p h e = record { first = c; others = ds; count = n; solid = past_head cs c ds p; scalar_values = h; found = e }

-- as those of a text are
pub read_pieces : (xs : List Piece) (cs : List ℕ) → scalars cs ≡ true → Reads cs xs [] → ArePieces xs
read_pieces [] cs h r = tt
read_pieces (x ∷ xs) cs h r = let q = past_scalars cs h in (piece_case cs x r.0 (past cs) refl q r.1, read_pieces xs (drop r.0 (past cs)) (scalars_drop r.0 (past cs) q) r.2)

all_kept : (xs : List Piece) → ArePieces xs → IsKept xs
all_kept [] h = record { codes = []; bytes = refl; scalar_values = refl; begins = refl; kept = λ b g o t s. ([], refl, refl) }
all_kept (x ∷ xs) h = let p = h.0 in one_more x xs p.count p.first p.others p.solid p.scalar_values p.found (all_kept xs h.1)

-- what is printed is a text
pub printed_is_text : (xs : List Piece) → ArePieces xs → IsUtf8 (spaced true xs)
printed_is_text xs h = let a = all_kept xs h in (a.codes, (a.scalar_values, a.bytes))

-- tokens, as they are printed, tidied
pub tidied_is_read : (xs : List Piece) → ArePieces xs → IsRead (tidy (spaced true xs)) xs
tidied_is_read xs h =
    let a = all_kept xs h in
    let codes : chars (spaced true xs) ≡ a.codes = ap chars (sym a.bytes) ∙ chars-encodes a.codes a.scalar_values in
    record {
      codes = codes_from start a.codes;
      bytes = bytes_are start a.codes ∙ ap (λ l. tidied start l) (sym codes);
      scalar_values = scalars_kept start a.codes a.scalar_values;
      reads = a.kept Open false refl;
    }

-- and a name by itself
pub name_is_read : (v : List ℕ) → IsToken (name v) → IsRead v (name v ∷ [])
name_is_read v p =
    let c = p.first in
    let one = token c p.others (name v) p.count p.scalar_values p.found in
    record {
      codes = c ∷ one.more;
      bytes = one.bytes;
      scalar_values = one.scalar_values;
      reads = λ t s.
          let first = one.reads t s in
          let solid = past_solid c (one.more ++ t) p.solid in (
            first.0 ∷ [],
            (length one.more + 1, ap front solid ∙ first.1, sym (ap (λ q. past (drop (length one.more + 1) q)) solid ∙ ap past (drop_own one.more t c))),
            (λ i. first.2 i ∷ []),
          );
    }

pub read_has : (text : List ℕ) (xs : List Piece) → IsRead text xs → HasTokens text xs
read_has text xs a =
    let k = a.reads [] tt in
    let codes : a.codes ++ [] ≡ chars text = append-nil a.codes ∙ sym (ap chars (sym a.bytes) ∙ chars-encodes a.codes a.scalar_values) in
    let R : List ℕ → Type 0 = λ q. Reads q k.0 [] in
    record { tokens = k.0; reads = subst R codes k.1; same = k.2 }

pub tidy_keeps_tokens : TidyKeepsTokens
tidy_keeps_tokens = record {
  kept = λ xs h. read_has (tidy (spaced true xs)) xs (tidied_is_read xs h);
  of_texts = λ bytes xs u r. read_pieces xs (chars bytes) (scalars-chars bytes u) r;
}
