-- Tokens that a text has at one span, it has at any other.
use Rattle.std.proofs.Common.{◌≡◌, ℕ, List, [], ◌∷◌, ◌++◌, map, refl, ap, ◌∙◌, subst}
use Rattle.std.specs.Str.{chars}
use Rattle.token_trees.specs.declared.token.Span.{Span}
use Rattle.token_trees.specs.Token.{Tok, word, mark, fixed, group, Toks, no_toks, tok, toks_of, placed, all_placed, site}
use Rattle.token_trees.specs.Text.{enclosed, pieces, inner_pieces, pieces_of, text_of}
use Rattle.rust_tokens.specs.Reading.{Reads, IsWritten, AreWritten, IsLexed}
use Rattle.rust_tokens.proofs.Again.{printed_is_read_again}
use Rattle.syntax_parsers.specs.SpellingAside.{SameToks}
use Rattle.syntax_laws.specs.RoundTrip.{AreOfText}

-- the pieces
mutual
  pieces_moved : (s u : Span) (t : Tok) → pieces (placed s t) ≡ pieces (placed u t)
  pieces_moved s u (word x _) = refl
  pieces_moved s u (mark c j _) = refl
  pieces_moved s u (fixed l _) = refl
  pieces_moved s u (group d ts _) = ap (enclosed d) (inner_moved s u ts)

  inner_moved : (s u : Span) (ts : Toks) → inner_pieces (all_placed s ts) ≡ inner_pieces (all_placed u ts)
  inner_moved s u no_toks = refl
  inner_moved s u (tok t ts) = ap (λ xs. xs ++ inner_pieces (all_placed s ts)) (pieces_moved s u t) ∙ ap (λ xs. pieces (placed u t) ++ xs) (inner_moved s u ts)

all_moved : (s u : Span) (ts : List Tok) → pieces_of (map (placed s) ts) ≡ pieces_of (map (placed u) ts)
all_moved s u [] = refl
all_moved s u (t ∷ ts) = ap (λ xs. xs ++ pieces_of (map (placed s) ts)) (pieces_moved s u t) ∙ ap (λ xs. pieces (placed u t) ++ xs) (all_moved s u ts)

-- the spans
mutual
  written_moved : (s u : Span) (t : Tok) → IsWritten s (placed s t) → IsWritten u (placed u t)
  written_moved s u (word x _) h = refl
  written_moved s u (mark c j _) h = refl
  written_moved s u (fixed l _) h = refl
  written_moved s u (group d ts _) h = (h.0, refl, toks_written s u ts h.2)

  toks_written : (s u : Span) (ts : Toks) → AreWritten s (all_placed s ts) → AreWritten u (all_placed u ts)
  toks_written s u no_toks h = tt
  toks_written s u (tok t ts) h = (written_moved s u t h.0, toks_written s u ts h.1)

all_written : (s u : Span) (ts : List Tok) → AreWritten s (toks_of (map (placed s) ts)) → AreWritten u (toks_of (map (placed u) ts))
all_written s u [] h = tt
all_written s u (t ∷ ts) h = (written_moved s u t h.0, all_written s u ts h.1)

lexed_moved : (cs : List ℕ) (s u : Span) (ts : List Tok) → IsLexed cs s (map (placed s) ts) → IsLexed cs u (map (placed u) ts)
lexed_moved cs s u ts h = record { read = subst (λ xs. Reads cs xs []) (all_moved s u ts) h.read; written = all_written s u ts h.written }

-- tokens that some text has are those of their own text
pub text_lexed : (ts : List Tok) (u : Span) → AreOfText ts → IsLexed (chars (text_of ts)) u (map (placed u) ts)
text_lexed ts u h = lexed_moved (chars (text_of ts)) h.1 u ts (printed_is_read_again h.0 h.1 ts h.2 h.3)

-- placed anew, tokens are the same, spans aside
mutual
  placed_again : (s : Span) (t : Tok) → placed site t ≡ placed site (placed s t)
  placed_again s (word x _) = refl
  placed_again s (mark c j _) = refl
  placed_again s (fixed l _) = refl
  placed_again s (group d ts _) = ap (λ z. group d z site) (toks_placed_again s ts)

  toks_placed_again : (s : Span) (ts : Toks) → all_placed site ts ≡ all_placed site (all_placed s ts)
  toks_placed_again s no_toks = refl
  toks_placed_again s (tok t ts) = ap (λ z. tok z (all_placed site ts)) (placed_again s t) ∙ ap (λ z. tok (placed site (placed s t)) z) (toks_placed_again s ts)

pub same_placed : (s : Span) (ts : List Tok) → SameToks ts (map (placed s) ts)
same_placed s [] = refl
same_placed s (t ∷ ts) = ap (λ z. z ∷ map (placed site) ts) (placed_again s t) ∙ ap (λ z. placed site (placed s t) ∷ z) (same_placed s ts)
