use Rattle.syntax_trees.specs.View.{expr_path_view}
use Rattle.syntax_printing.specs.Print.{print_expr_path}
use Rattle.syntax_parsers.specs.SpellingAside.{SameExprPath}
use Rattle.syntax_parsers.specs.SpellingForm.{IsParsedExprPath, SpellsExprPath}
use Rattle.syntax_parsers.specs.Whole.{expr_path_of}
use Rattle.printing_laws.specs.Parts.{ExprPathParts}
use Rattle.printing_laws.proofs.PrintedParts.{printings_are_of_text}
use Rattle.printing_laws.proofs.FromPrinted.{spelled_whole, answered_whole}
use Rattle.printing_laws.proofs.whole.whole_expr_paths_are_parsed.Goals as goal

pub returns : goal.returns
returns c = (
  spelled_whole IsParsedExprPath ExprPathParts print_expr_path SpellsExprPath SameExprPath printings_are_of_text.expr_paths c.printed_expr_paths_are_parsed.ensures.0,
  answered_whole expr_path_view expr_path_of IsParsedExprPath ExprPathParts print_expr_path SameExprPath printings_are_of_text.expr_paths c.printed_expr_paths_are_parsed.ensures.1,
)
