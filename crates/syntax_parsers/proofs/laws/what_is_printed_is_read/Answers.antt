use Rattle.std.proofs.Common.{[], sym}
use Rattle.std.proofs.lemmas.List.{append-nil}
use Rattle.syntax_printing.specs.Print.{print_ty, print_path, print_expr_path}
use Rattle.syntax_parsers.proofs.spelling.Printing.{ty_printed, path_printed, expr_path_printed}
use Rattle.syntax_parsers.proofs.spelling.Aside.{ty_aside, path_aside, expr_path_aside}
use Rattle.syntax_parsers.proofs.spelling.Exact.{ty_exact, path_exact, expr_path_exact}
use Rattle.syntax_parsers.proofs.laws.what_is_printed_is_read.Goals as goal

pub returns : goal.returns
returns c = (
  λ n at us t m h k.
      let a = ty_aside (print_ty t) us t (h, ty_printed t (print_ty t) [] h.0 (sym (append-nil (print_ty t)))) k in
      (a.0, (ty_exact n at us a.0 m).1 a.1, a.2),
  λ n at us p m h k.
      let a = path_aside (print_path p) us p (h, path_printed p (print_path p) [] h.0 (sym (append-nil (print_path p)))) k in
      (a.0, (path_exact n at us a.0 m).1 a.1, a.2),
  λ n at us p m h k.
      let a = expr_path_aside (print_expr_path p) us p (h, expr_path_printed p (print_expr_path p) [] h.0 (sym (append-nil (print_expr_path p)))) k in
      (a.0, (expr_path_exact n at us a.0 m).1 a.1, a.2),
)
