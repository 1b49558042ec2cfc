-- The length of an array, in pieces.
use Rattle.std.proofs.Common.{◌≡◌, ◌<◌, ◌≤◌, List, [], ◌∷◌, length, refl, arith}
use Rattle.token_trees.specs.declared.token.Span.{Span}
use Rattle.token_trees.specs.declared.token.TokenTree.{TokenTree}
use Rattle.token_trees.specs.View.{tree, trees}
use Rattle.token_trees.specs.Token.{Tok, word, mark, fixed, group}
use Rattle.syntax_trees.specs.declared.cursor.SyntaxKind.TheVariants.{ExpectedValue}
use Rattle.syntax_parsers.specs.Grammar.{Readers, missing, length_body}
use Rattle.syntax_parsers.specs.Parts.{some_length}

length_none : (r : Readers) (at : Span) → length_body r at [] ≡ missing ExpectedValue at []
unfolding length_body
length_none r at = refl

length_some : (r : Readers) (at : Span) (t : Tok) (ts : List Tok) → length_body r at (t ∷ ts) ≡ some_length r at (t ∷ ts)
unfolding length_body some_length
length_some r at (word x s) ts = refl
length_some r at (mark c j s) ts = refl
length_some r at (fixed l s) [] = refl
length_some r at (fixed l s) (u ∷ us) = refl
length_some r at (group d us s) ts = refl

pub length_nothing : (r : Readers) (at : Span) (left : List TokenTree) → length left < 1 → length_body r at (trees left) ≡ missing ExpectedValue at (trees left)
length_nothing r at [] h = length_none r at
length_nothing r at (t ∷ ts) h = absurd (omega arith)

pub length_something : (r : Readers) (at : Span) (left : List TokenTree) → 1 ≤ length left → length_body r at (trees left) ≡ some_length r at (trees left)
length_something r at [] h = absurd (omega arith)
length_something r at (t ∷ ts) h = length_some r at (tree t) (trees ts)
