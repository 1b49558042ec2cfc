use Rattle.syntax_trees.specs.View.{ty}
use Rattle.syntax_parsers.specs.SpellingForm.{SpellsTy}
use Rattle.syntax_parsers.specs.Whole.{type_of}
use Rattle.syntax_laws.proofs.TextsExact.{answered, types_exact}
use Rattle.syntax_laws.proofs.texts.types_are_answered_exactly.Goals as goal

pub returns : goal.returns
returns c = answered ty type_of SpellsTy types_exact
