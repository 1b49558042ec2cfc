-- Texts that have tokens, one behind another.
use Rattle.std.proofs.Common.{◌≡◌, ℕ, true, List, [], ◌∷◌, ◌++◌, map, sym, subst, ◌∙◌, append_assoc, encode_utf8_all}
use Rattle.std.specs.Str.{skip_leading_whitespace}
use Rattle.std.proofs.lemmas.List.{map-append}
use Rattle.std.proofs.lemmas.Str.{encodes-append}
use Rattle.token_trees.specs.Token.{Tok, Name}
use Rattle.token_trees.specs.Text.{Piece, name, pieces_of, text_of}
use Rattle.token_trees.proofs.Texts.{pieces_of_append}
use Rattle.rust_tokens.specs.Reading.{Reads}
use Rattle.rust_tokens.proofs.Readings.{past_reads, reads_append}
use Rattle.rust_tokens.proofs.Printing.{scalars_append}
use Rattle.syntax_printing.specs.Print.{print_name}
use Rattle.tidy_texts.specs.Tidy.{tidy}
use Rattle.tidy_laws.specs.Laws.{bare, IsToken}
use Rattle.tidy_laws.proofs.Tokens.{Stops}
use Rattle.tidy_laws.proofs.Kept.{Keeps, IsRead, ArePieces, tidied_is_read, name_is_read}
use lib.Utf8.{scalars}

abbrev past : List ℕ → List ℕ
past = skip_leading_whitespace

-- ---- what a text has

join : (ks ls t : List ℕ) (xs ys : List Piece) → Keeps ks xs (ls ++ t) → Keeps ls ys t → Keeps (ks ++ ls) (xs ++ ys) t
join ks ls t xs ys h k =
    let R : List ℕ → Type 0 = λ q. Reads q (h.0 ++ k.0) (past t) in (
      h.0 ++ k.0,
      subst R (sym (append_assoc ks ls t)) (reads_append (ks ++ (ls ++ t)) h.0 k.0 (past (ls ++ t)) (past t) h.1 (past_reads (ls ++ t) k.0 (past t) k.1)),
      map-append bare h.0 k.0 ∙ (λ i. h.2 i ++ k.2 i) ∙ sym (map-append bare xs ys),
    )

-- whatever follows; `IsRead` is so where no name goes on
pub record IsBefore (text : List ℕ) (xs : List Piece) : Type 0 where
  pub codes : List ℕ
  pub bytes : encode_utf8_all codes ≡ text
  pub scalar_values : scalars codes ≡ true
  pub reads : (t : List ℕ) → Keeps codes xs t

-- whatever follows, and behind a name
pub record IsStopping (text : List ℕ) (xs : List Piece) : Type 0 where
  pub before : IsBefore text xs
  pub stops : (t : List ℕ) → Stops (before.codes ++ t)

bytes_both : (ks ls a b : List ℕ) → encode_utf8_all ks ≡ a → encode_utf8_all ls ≡ b → encode_utf8_all (ks ++ ls) ≡ a ++ b
bytes_both ks ls a b h k = encodes-append ks ls ∙ (λ i. h i ++ k i)

pub before_then : (a b : List ℕ) (xs ys : List Piece) → IsBefore a xs → IsBefore b ys → IsBefore (a ++ b) (xs ++ ys)
before_then a b xs ys h k = record {
  codes = h.codes ++ k.codes;
  bytes = bytes_both h.codes k.codes a b h.bytes k.bytes;
  scalar_values = scalars_append h.codes k.codes h.scalar_values k.scalar_values;
  reads = λ t. join h.codes k.codes t xs ys (h.reads (k.codes ++ t)) (k.reads t);
}

pub before_read : (a b : List ℕ) (xs ys : List Piece) → IsBefore a xs → IsRead b ys → IsRead (a ++ b) (xs ++ ys)
before_read a b xs ys h k = record {
  codes = h.codes ++ k.codes;
  bytes = bytes_both h.codes k.codes a b h.bytes k.bytes;
  scalar_values = scalars_append h.codes k.codes h.scalar_values k.scalar_values;
  reads = λ t s. join h.codes k.codes t xs ys (h.reads (k.codes ++ t)) (k.reads t s);
}

pub read_then : (a b : List ℕ) (xs ys : List Piece) → IsRead a xs → IsStopping b ys → IsBefore (a ++ b) (xs ++ ys)
read_then a b xs ys h s =
    let k = s.before in
    record {
      codes = h.codes ++ k.codes;
      bytes = bytes_both h.codes k.codes a b h.bytes k.bytes;
      scalar_values = scalars_append h.codes k.codes h.scalar_values k.scalar_values;
      reads = λ t. join h.codes k.codes t xs ys (h.reads (k.codes ++ t) (s.stops t)) (k.reads t);
    }

pub stopping_then : (a b : List ℕ) (xs ys : List Piece) → IsStopping a xs → IsBefore b ys → IsStopping (a ++ b) (xs ++ ys)
unfolding before_then
stopping_then a b xs ys s k =
    let S : List ℕ → Type 0 = Stops in
    record {
      before = before_then a b xs ys s.before k;
      stops = λ t. subst S (sym (append_assoc s.before.codes k.codes t)) (s.stops (k.codes ++ t));
    }

-- the same, as something equal
pub before_is : (a : List ℕ) (xs ys : List Piece) → xs ≡ ys → IsBefore a xs → IsBefore a ys
before_is a xs ys e h = let P : List Piece → Type 0 = IsBefore a in subst P e h

pub read_is : (a : List ℕ) (xs ys : List Piece) → xs ≡ ys → IsRead a xs → IsRead a ys
read_is a xs ys e h = let P : List Piece → Type 0 = IsRead a in subst P e h

pub stopping_is : (a : List ℕ) (xs ys : List Piece) → xs ≡ ys → IsStopping a xs → IsStopping a ys
stopping_is a xs ys e s = let P : List Piece → Type 0 = IsStopping a in subst P e s

pub stopping_text : (a b : List ℕ) (xs : List Piece) → a ≡ b → IsStopping a xs → IsStopping b xs
stopping_text a b xs e s = let P : List ℕ → Type 0 = λ z. IsStopping z xs in subst P e s

-- ---- tokens that are such as texts have

abbrev pub Are : List Tok → Type 0
Are ts = ArePieces (pieces_of ts)

front_of : (xs ys : List Piece) → ArePieces (xs ++ ys) → ArePieces xs
front_of [] ys h = tt
front_of (x ∷ xs) ys h = (h.0, front_of xs ys h.1)

back_of : (xs ys : List Piece) → ArePieces (xs ++ ys) → ArePieces ys
back_of [] ys h = h
back_of (x ∷ xs) ys h = back_of xs ys h.1

pub as_pieces : (xs ys : List Piece) → xs ≡ ys → ArePieces xs → ArePieces ys
as_pieces xs ys e h = let A : List Piece → Type 0 = ArePieces in subst A e h

pub are_first : (ts us : List Tok) → Are (ts ++ us) → Are ts
are_first ts us h = front_of (pieces_of ts) (pieces_of us) (as_pieces (pieces_of (ts ++ us)) (pieces_of ts ++ pieces_of us) (pieces_of_append ts us) h)

pub are_last : (ts us : List Tok) → Are (ts ++ us) → Are us
are_last ts us h = back_of (pieces_of ts) (pieces_of us) (as_pieces (pieces_of (ts ++ us)) (pieces_of ts ++ pieces_of us) (pieces_of_append ts us) h)

-- within brackets
pub are_inside : (x y : Piece) (ts us : List Tok) → pieces_of us ≡ x ∷ (pieces_of ts ++ y ∷ []) → Are us → Are ts
are_inside x y ts us e h = front_of (pieces_of ts) (y ∷ []) (as_pieces (pieces_of us) (x ∷ (pieces_of ts ++ y ∷ [])) e h).1

pub tokens_read : (ts : List Tok) → Are ts → IsRead (tidy (text_of ts)) (pieces_of ts)
tokens_read ts h = tidied_is_read (pieces_of ts) h

pub name_read : (n : Name) → IsToken (name n.text) → IsRead n.text (name n.text ∷ [])
name_read n h = name_is_read n.text h
