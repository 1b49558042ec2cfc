use Rattle.syntax_parsers.proofs.spelling.Aside.{ty_aside, path_aside, expr_path_aside, bounds_aside}
use Rattle.syntax_parsers.proofs.laws.spans_are_passed_over.Goals as goal

pub returns : goal.returns
returns c = (ty_aside, path_aside, expr_path_aside, bounds_aside)
