use Rattle.syntax_trees.specs.View.{ty, lit_str_view}
use Rattle.syntax_parsers.specs.SpellingForm.{SpellsTy}
use Rattle.syntax_parsers.specs.Whole.{type_of}
use Rattle.syntax_laws.proofs.TextsExact.{answers_text, types_exact}
use Rattle.syntax_laws.proofs.answers.parse_type.Goals as goal

pub returns-clause-spelled : goal.returns-clause-spelled
returns-clause-spelled c = answers_text ty type_of SpellsTy types_exact (lit_str_view c.args.lit.now) c.parse_type.result (c.parse_type.ensures.tree, c.parse_type.ensures.fault)
