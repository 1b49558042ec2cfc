-- What all tokens are read as: each reader is given room enough for them.
use Rattle.std.specs.Prelude.{ℕ, ◌+◌, ◌*◌, List, Result}
use Rattle.token_trees.specs.declared.token.Span.{Span}
use Rattle.token_trees.specs.Token.{Tok}
use Rattle.syntax_trees.specs.Syntax.{TyD, PathD, ExprPathD}
use Rattle.syntax_trees.specs.Item.{PredicateD}
use Rattle.syntax_trees.specs.declared.cursor.SyntaxError.{SyntaxError}
use Rattle.syntax_parsers.specs.Fronts.{weight}
use Rattle.syntax_parsers.specs.Grammar.{whole, path_body}
use Rattle.syntax_parsers.specs.Read.{levels}
use Rattle.syntax_parsers.specs.Where.{some_predicates}

-- A segment needs a level, a type or a bound one more on the same tokens, a list of types or arguments one more again;
-- whatever a reader holds, begins behind one token at least.
abbrev pub room : List Tok → ℕ
room ts = 3 * weight ts + 3

unfoldable pub path_of : Span → List Tok → Result PathD SyntaxError
path_of at ts = whole at (path_body (levels (room ts)) at ts)

unfoldable pub expr_path_of : Span → List Tok → Result ExprPathD SyntaxError
expr_path_of at ts = whole at ((levels (room ts)).expr_path at ts)

unfoldable pub type_of : Span → List Tok → Result TyD SyntaxError
type_of at ts = whole at ((levels (room ts)).ty at ts)

unfoldable pub predicates_of : Span → List Tok → Result (List PredicateD) SyntaxError
predicates_of at ts = some_predicates (room ts) (room ts) (levels (room ts)) at ts
