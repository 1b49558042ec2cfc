use Rattle.syntax_trees.specs.Syntax.{bounds_of}
use Rattle.syntax_parsers.specs.Grammar.{whole, path_body}
use Rattle.syntax_parsers.specs.Read.{levels}
use Rattle.syntax_parsers.specs.SpellingForm.{SpellsTy, SpellsPath, SpellsExprPath, SpellsBounds}
use Rattle.syntax_parsers.proofs.spelling.Exact.{ty_exact, path_exact, expr_path_exact, bounds_exact, refused}
use Rattle.syntax_parsers.proofs.laws.exactly_what_is_not_spelled_is_refused.Goals as goal

pub returns : goal.returns
returns c = (
  λ n at ts m. refused {P = λ t. SpellsTy ts t} (whole at ((levels n).ty at ts)) (λ t. ty_exact n at ts t m),
  λ n at ts m. refused {P = λ t. SpellsPath ts t} (whole at (path_body (levels n) at ts)) (λ t. path_exact n at ts t m),
  λ n at ts m. refused {P = λ t. SpellsExprPath ts t} (whole at ((levels n).expr_path at ts)) (λ t. expr_path_exact n at ts t m),
  λ n at ts m. refused {P = λ t. SpellsBounds ts (bounds_of t)} (whole at ((levels n).bounds at ts)) (λ t. bounds_exact n at ts t m),
)
