use Rattle.history_laws.proofs.Coming.{tables_are_formed}
use Rattle.history_laws.proofs.laws.tables_are_formed.Goals as goal

pub returns : goal.returns
returns c = tables_are_formed
