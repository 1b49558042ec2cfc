use Rattle.syntax_trees.specs.View.{path_view, lit_str_view}
use Rattle.syntax_parsers.specs.SpellingForm.{SpellsPath}
use Rattle.syntax_parsers.specs.Whole.{path_of}
use Rattle.syntax_laws.proofs.TextsExact.{answers_text, paths_exact}
use Rattle.syntax_laws.proofs.answers.parse_path.Goals as goal

pub returns-clause-spelled : goal.returns-clause-spelled
returns-clause-spelled c = answers_text path_view path_of SpellsPath paths_exact (lit_str_view c.args.lit.now) c.parse_path.result (c.parse_path.ensures.path, c.parse_path.ensures.fault)
