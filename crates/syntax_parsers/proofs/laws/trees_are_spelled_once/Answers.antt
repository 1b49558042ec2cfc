use Rattle.std.proofs.Common.{suc, ◌*◌, arith}
use Rattle.token_trees.specs.Token.{site}
use Rattle.syntax_parsers.specs.Fronts.{weight}
use Rattle.syntax_parsers.proofs.spelling.Exact.{ty_exact, path_exact, expr_path_exact, bounds_exact, once}
use Rattle.syntax_parsers.proofs.laws.trees_are_spelled_once.Goals as goal

pub returns : goal.returns
returns c = (
  λ ts t u h k. let n = suc (3 * weight ts) in once _ t u ((ty_exact n site ts t (omega arith)).1 h) ((ty_exact n site ts u (omega arith)).1 k),
  λ ts t u h k. let n = suc (3 * weight ts) in once _ t u ((path_exact n site ts t (omega arith)).1 h) ((path_exact n site ts u (omega arith)).1 k),
  λ ts t u h k. let n = suc (3 * weight ts) in once _ t u ((expr_path_exact n site ts t (omega arith)).1 h) ((expr_path_exact n site ts u (omega arith)).1 k),
  λ ts t u h k. let n = suc (3 * weight ts) in once _ t u ((bounds_exact n site ts t (omega arith)).1 h) ((bounds_exact n site ts u (omega arith)).1 k),
)
