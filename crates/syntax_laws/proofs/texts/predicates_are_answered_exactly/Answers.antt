use Rattle.syntax_parsers.specs.Whole.{predicates_of}
use Rattle.syntax_laws.specs.Predicates.{SpellsPredicates}
use Rattle.syntax_laws.specs.TextSpelling.{predicate_views}
use Rattle.syntax_laws.proofs.PredicatesExact.{predicates_exact}
use Rattle.syntax_laws.proofs.TextsExact.{answered}
use Rattle.syntax_laws.proofs.texts.predicates_are_answered_exactly.Goals as goal

pub returns : goal.returns
returns c = answered predicate_views predicates_of SpellsPredicates predicates_exact
