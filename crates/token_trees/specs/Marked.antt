-- Trees with another span at every level, where one is given.
use Rattle.std.specs.Prelude.{Option, Some, None}
use Rattle.token_trees.specs.declared.token.Span.{Span}
use Rattle.token_trees.specs.Token.{Tok, word, mark, fixed, group, Toks, no_toks, tok}

-- the span that is given, or else the token's own
abbrev pub chosen : Option Span → Span → Span
chosen None own = own
chosen (Some s) own = s

abbrev mutual
  pub marked : Option Span → Tok → Tok
  marked o (word x s) = word x (chosen o s)
  marked o (mark c j s) = mark c j (chosen o s)
  marked o (fixed l s) = fixed l (chosen o s)
  marked o (group d ts s) = group d (all_marked o ts) (chosen o s)

  pub all_marked : Option Span → Toks → Toks
  all_marked o no_toks = no_toks
  all_marked o (tok t ts) = tok (marked o t) (all_marked o ts)

-- no group
abbrev pub IsToken : Tok → Type 0
IsToken (word _ _) = Unit {0}
IsToken (mark _ _ _) = Unit {0}
IsToken (fixed _ _) = Unit {0}
IsToken (group _ _ _) = ⊥
