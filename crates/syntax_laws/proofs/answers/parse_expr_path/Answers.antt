use Rattle.syntax_trees.specs.View.{expr_path_view, lit_str_view}
use Rattle.syntax_parsers.specs.SpellingForm.{SpellsExprPath}
use Rattle.syntax_parsers.specs.Whole.{expr_path_of}
use Rattle.syntax_laws.proofs.TextsExact.{answers_text, expr_paths_exact}
use Rattle.syntax_laws.proofs.answers.parse_expr_path.Goals as goal

pub returns-clause-spelled : goal.returns-clause-spelled
returns-clause-spelled c = answers_text expr_path_view expr_path_of SpellsExprPath expr_paths_exact (lit_str_view c.args.lit.now) c.parse_expr_path.result (c.parse_expr_path.ensures.path, c.parse_expr_path.ensures.fault)
