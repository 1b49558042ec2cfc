use Rattle.std.proofs.Common.{[], false, sym}
use Rattle.std.proofs.lemmas.List.{append-nil}
use Rattle.syntax_trees.specs.Syntax.{bounds_of}
use Rattle.syntax_printing.specs.Print.{print_ty, print_path, print_expr_path, print_bounds}
use Rattle.syntax_parsers.proofs.spelling.Printing.{ty_printed, path_printed, expr_path_printed, bounds_printed}
use Rattle.syntax_parsers.proofs.laws.what_is_printed_is_spelled.Goals as goal

pub returns : goal.returns
returns c = (
  λ t h. (h, ty_printed t (print_ty t) [] h.0 (sym (append-nil (print_ty t)))),
  λ p h. (h, path_printed p (print_path p) [] h.0 (sym (append-nil (print_path p)))),
  λ p h. (h, expr_path_printed p (print_expr_path p) [] h.0 (sym (append-nil (print_expr_path p)))),
  λ bs h. (h, bounds_printed (bounds_of bs) (print_bounds false (bounds_of bs)) [] h.0 (sym (append-nil (print_bounds false (bounds_of bs))))),
)
