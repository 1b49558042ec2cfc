use Rattle.syntax_parsers.specs.Whole.{predicates_of}
use Rattle.syntax_parsers.proofs.spelling.Exact.{refused}
use Rattle.syntax_laws.specs.Predicates.{SpellsPredicates}
use Rattle.syntax_laws.proofs.PredicatesExact.{predicates_exact}
use Rattle.syntax_laws.proofs.predicates.exactly_unspelled_predicates_are_refused.Goals as goal

pub returns : goal.returns
returns c = λ at ts. refused {P = λ ps. SpellsPredicates ts ps} (predicates_of at ts) (predicates_exact at ts)
