-- The brackets of a group, where some show.
use Rattle.std.specs.Prelude.{List, [], ◌∷◌}
use Rattle.token_trees.specs.declared.token.Delimiter.{Delimiter}
use Rattle.token_trees.specs.declared.token.Delimiter.TheVariants.{Parenthesis, Brace, Bracket, None}
use Rattle.token_trees.specs.Token.{Tok, word, mark, fixed, group}
use Rattle.token_trees.specs.Text.{Piece, name, sign, constant, opens, closes}

-- what stands before the trees of a group
abbrev pub opening_pieces : Delimiter → List Piece
opening_pieces Parenthesis = opens Parenthesis ∷ []
opening_pieces Brace = opens Brace ∷ []
opening_pieces Bracket = opens Bracket ∷ []
opening_pieces None = []

-- what stands behind them
abbrev pub closing_pieces : Delimiter → List Piece
closing_pieces Parenthesis = closes Parenthesis ∷ []
closing_pieces Brace = closes Brace ∷ []
closing_pieces Bracket = closes Bracket ∷ []
closing_pieces None = []

-- the first token of a tree, where one shows
abbrev pub first_pieces : Tok → List Piece
first_pieces (word x _) = name x ∷ []
first_pieces (mark c j _) = sign c j ∷ []
first_pieces (fixed l _) = constant l ∷ []
first_pieces (group d _ _) = opening_pieces d
