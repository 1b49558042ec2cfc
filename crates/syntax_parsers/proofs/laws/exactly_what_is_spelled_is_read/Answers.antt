use Rattle.syntax_parsers.proofs.spelling.Exact.{ty_exact, path_exact, expr_path_exact, bounds_exact}
use Rattle.syntax_parsers.proofs.laws.exactly_what_is_spelled_is_read.Goals as goal

pub returns : goal.returns
returns c = (ty_exact, path_exact, expr_path_exact, bounds_exact)
