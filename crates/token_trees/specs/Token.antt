-- What token trees are to contracts: texts are their bytes, and nothing says where they lie in memory.
use Rattle.std.specs.Prelude.{ℕ, List, [], ◌∷◌}
use Rattle.token_trees.specs.declared.token.Span.{Span}
use Rattle.token_trees.specs.declared.token.Delimiter.{Delimiter}
use Rattle.token_trees.specs.declared.token.Spacing.{Spacing}

pub data Fixed : Type 0 where
  text : List ℕ → List ℕ → Fixed
  digits : List ℕ → Fixed
  other : List ℕ → Fixed

-- a name or a literal with its place
pub record Name : Type 0 where
  pub text : List ℕ
  pub span : Span

mutual
  pub data Tok : Type 0 where
    word : List ℕ → Span → Tok
    mark : ℕ → Spacing → Span → Tok
    fixed : Fixed → Span → Tok
    group : Delimiter → Toks → Span → Tok

  pub data Toks : Type 0 where
    no_toks : Toks
    tok : Tok → Toks → Toks

abbrev pub toks_of : List Tok → Toks
toks_of [] = no_toks
toks_of (t ∷ ts) = tok t (toks_of ts)

abbrev pub list_of : Toks → List Tok
list_of no_toks = []
list_of (tok t ts) = t ∷ list_of ts

-- the same trees, each with the span s
abbrev mutual
  pub placed : Span → Tok → Tok
  placed s (word x _) = word x s
  placed s (mark c j _) = mark c j s
  placed s (fixed l _) = fixed l s
  placed s (group d ts _) = group d (all_placed s ts) s

  pub all_placed : Span → Toks → Toks
  all_placed s no_toks = no_toks
  all_placed s (tok t ts) = tok (placed s t) (all_placed s ts)

-- where the tree's own marks lie
abbrev pub site : Span
site = record { file = 0; lo = 0; hi = 0 }

abbrev pub span_of : Tok → Span
span_of (word x s) = s
span_of (mark c j s) = s
span_of (fixed l s) = s
span_of (group d ts s) = s

-- the last of a first tree and those after it
abbrev pub last_of : Tok → List Tok → Tok
last_of t [] = t
last_of t (u ∷ us) = last_of u us

-- from the beginning of the first tree to the end of the last, in the file of the first
abbrev pub span_of_all : List Tok → Span
span_of_all [] = site
span_of_all (t ∷ ts) = record { file = (span_of t).file; lo = (span_of t).lo; hi = (span_of (last_of t ts)).hi }
