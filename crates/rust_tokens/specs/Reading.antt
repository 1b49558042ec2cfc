-- The trees of a text.
use Rattle.std.specs.Prelude.{◌≡◌, ◌≢◌, ℕ, List, [], ◌∷◌, Some, drop}
use Rattle.std.specs.Str.{skip_leading_whitespace}
use Rattle.token_trees.specs.declared.token.Span.{Span}
use Rattle.token_trees.specs.declared.token.Delimiter.TheVariants.{None as hidden}
use Rattle.token_trees.specs.Token.{Tok, word, mark, fixed, group, Toks, no_toks, tok, toks_of}
use Rattle.token_trees.specs.Text.{Piece, pieces_of}
use Rattle.rust_tokens.specs.Front.{front}

-- The characters are those tokens, with nothing but white space between them, and then `rest`, before which white space is passed.
abbrev pub Reads : List ℕ → List Piece → List ℕ → Type 0
Reads cs [] rest = rest ≡ skip_leading_whitespace cs
Reads cs (x ∷ xs) rest = (n : ℕ) × (front (skip_leading_whitespace cs) ≡ Some (x, n)) × Reads (drop n (skip_leading_whitespace cs)) xs rest

-- each tree, at every level, has the span, and each group has brackets
abbrev mutual
  pub IsWritten : Span → Tok → Type 0
  IsWritten s (word _ t) = t ≡ s
  IsWritten s (mark _ _ t) = t ≡ s
  IsWritten s (fixed _ t) = t ≡ s
  IsWritten s (group d ts t) = (d ≢ hidden) × (t ≡ s) × AreWritten s ts

  pub AreWritten : Span → Toks → Type 0
  AreWritten s no_toks = Unit {0}
  AreWritten s (tok t ts) = IsWritten s t × AreWritten s ts

-- the trees of the whole text
pub record IsLexed (cs : List ℕ) (s : Span) (ts : List Tok) : Type 0 where
  pub read : Reads cs (pieces_of ts) []
  pub written : AreWritten s (toks_of ts)
