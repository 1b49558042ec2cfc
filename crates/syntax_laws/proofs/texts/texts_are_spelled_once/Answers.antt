use Rattle.syntax_parsers.specs.Lifetimes.{SpellsLifetimes, lifetimes_of}
use Rattle.syntax_parsers.specs.SpellingForm.{SpellsTy, SpellsPath, SpellsExprPath}
use Rattle.syntax_parsers.specs.Whole.{type_of, path_of, expr_path_of, predicates_of}
use Rattle.syntax_laws.specs.Predicates.{SpellsPredicates}
use Rattle.syntax_laws.proofs.PredicatesExact.{predicates_exact}
use Rattle.syntax_laws.proofs.TextsExact.{spelled_once, types_exact, paths_exact, expr_paths_exact, lifetimes_exact}
use Rattle.syntax_laws.proofs.texts.texts_are_spelled_once.Goals as goal

pub returns : goal.returns
returns c = (
  spelled_once type_of SpellsTy types_exact,
  spelled_once path_of SpellsPath paths_exact,
  spelled_once expr_path_of SpellsExprPath expr_paths_exact,
  spelled_once predicates_of SpellsPredicates predicates_exact,
  spelled_once (λ _. lifetimes_of) SpellsLifetimes lifetimes_exact,
)
