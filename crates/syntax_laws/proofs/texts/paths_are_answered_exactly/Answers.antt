use Rattle.syntax_trees.specs.View.{path_view}
use Rattle.syntax_parsers.specs.SpellingForm.{SpellsPath}
use Rattle.syntax_parsers.specs.Whole.{path_of}
use Rattle.syntax_laws.proofs.TextsExact.{answered, paths_exact}
use Rattle.syntax_laws.proofs.texts.paths_are_answered_exactly.Goals as goal

pub returns : goal.returns
returns c = answered path_view path_of SpellsPath paths_exact
