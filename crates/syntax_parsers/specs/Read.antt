-- The readers: level over level of the grammar. The number bounds how deep readings stand in one another and how long a list
-- is; with room enough it says nothing else.
use Rattle.std.specs.Prelude.{ℕ, zero, suc}
use Rattle.syntax_trees.specs.declared.cursor.SyntaxKind.TheVariants.{UnexpectedToken}
use Rattle.syntax_parsers.specs.Grammar.{Readers, missing, ty_body, tys_body, bounds_body, segments_body, generics_body, expr_path_body}

-- no room: nothing is read
abbrev pub stuck : Readers
stuck = record {
  ty = λ at ts. missing UnexpectedToken at ts;
  tys = λ at ts. missing UnexpectedToken at ts;
  bounds = λ at ts. missing UnexpectedToken at ts;
  segments = λ at ts. missing UnexpectedToken at ts;
  generics = λ at ts. missing UnexpectedToken at ts;
  expr_path = λ at ts. missing UnexpectedToken at ts;
}

abbrev pub level : Readers → Readers
level r = record {
  ty = ty_body r;
  tys = tys_body r;
  bounds = bounds_body r;
  segments = segments_body r;
  generics = generics_body r;
  expr_path = expr_path_body r;
}

unfoldable pub levels : ℕ → Readers
levels zero = stuck
levels (suc n) = level (levels n)
