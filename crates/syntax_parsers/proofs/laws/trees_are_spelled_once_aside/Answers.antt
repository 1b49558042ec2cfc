use Rattle.std.proofs.Common.{◌∙◌, ap, sym, suc, ◌*◌, arith}
use Rattle.token_trees.specs.Token.{site}
use Rattle.syntax_parsers.specs.Fronts.{weight}
use Rattle.syntax_parsers.specs.SpellingAside.{ty_at, path_at, expr_path_at}
use Rattle.syntax_parsers.proofs.spelling.Exact.{ty_exact, path_exact, expr_path_exact, once}
use Rattle.syntax_parsers.proofs.laws.trees_are_spelled_once_aside.Goals as goal

pub returns : goal.returns
returns c = (
  λ ts t u h k. let n = suc (3 * weight ts) in h.2 ∙ ap (ty_at site) (once _ h.0 k.0 ((ty_exact n site ts h.0 (omega arith)).1 h.1) ((ty_exact n site ts k.0 (omega arith)).1 k.1)) ∙ sym k.2,
  λ ts t u h k. let n = suc (3 * weight ts) in h.2 ∙ ap (path_at site) (once _ h.0 k.0 ((path_exact n site ts h.0 (omega arith)).1 h.1) ((path_exact n site ts k.0 (omega arith)).1 k.1)) ∙ sym k.2,
  λ ts t u h k. let n = suc (3 * weight ts) in h.2 ∙ ap (expr_path_at site) (once _ h.0 k.0 ((expr_path_exact n site ts h.0 (omega arith)).1 h.1) ((expr_path_exact n site ts k.0 (omega arith)).1 k.1)) ∙ sym k.2,
)
