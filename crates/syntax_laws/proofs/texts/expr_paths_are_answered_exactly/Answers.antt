use Rattle.syntax_trees.specs.View.{expr_path_view}
use Rattle.syntax_parsers.specs.SpellingForm.{SpellsExprPath}
use Rattle.syntax_parsers.specs.Whole.{expr_path_of}
use Rattle.syntax_laws.proofs.TextsExact.{answered, expr_paths_exact}
use Rattle.syntax_laws.proofs.texts.expr_paths_are_answered_exactly.Goals as goal

pub returns : goal.returns
returns c = answered expr_path_view expr_path_of SpellsExprPath expr_paths_exact
