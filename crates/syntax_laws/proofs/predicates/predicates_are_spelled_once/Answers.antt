use Rattle.syntax_laws.proofs.PredicatesExact.{predicates_once}
use Rattle.syntax_laws.proofs.predicates.predicates_are_spelled_once.Goals as goal

pub returns : goal.returns
returns c = predicates_once
