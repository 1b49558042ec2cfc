use Rattle.syntax_laws.proofs.PredicatesExact.{predicates_exact}
use Rattle.syntax_laws.proofs.predicates.exactly_spelled_predicates_are_read.Goals as goal

pub returns : goal.returns
returns c = predicates_exact
