use Rattle.std.proofs.Common.{[], sym}
use Rattle.std.proofs.lemmas.List.{append-nil}
use Rattle.syntax_trees.specs.View.{expr_path_view}
use Rattle.syntax_printing.specs.Print.{print_expr_path}
use Rattle.syntax_parsers.specs.SpellingAside.{SameExprPath}
use Rattle.syntax_parsers.specs.SpellingForm.{IsParsedExprPath, SpellsExprPath}
use Rattle.syntax_parsers.specs.Whole.{expr_path_of}
use Rattle.syntax_parsers.proofs.spelling.Printing.{expr_path_printed}
use Rattle.syntax_parsers.proofs.spelling.Aside.{expr_path_aside}
use Rattle.syntax_laws.proofs.TextsExact.{expr_paths_exact}
use Rattle.syntax_laws.proofs.Printed.{IsSpelledAside, spelled_again, answered_again}
use Rattle.syntax_laws.proofs.round_trip.printed_expr_paths_are_parsed.Goals as goal

aside : IsSpelledAside IsParsedExprPath print_expr_path SpellsExprPath SameExprPath
aside p us h k = expr_path_aside (print_expr_path p) us p (h, expr_path_printed p (print_expr_path p) [] h.0 (sym (append-nil (print_expr_path p)))) k

pub returns : goal.returns
returns c = (
  spelled_again IsParsedExprPath print_expr_path SpellsExprPath SameExprPath aside,
  answered_again expr_path_view expr_path_of SpellsExprPath expr_paths_exact IsParsedExprPath print_expr_path SameExprPath aside,
)
