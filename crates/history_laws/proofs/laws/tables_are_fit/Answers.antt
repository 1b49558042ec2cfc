use Rattle.history_laws.proofs.Coming.{tables_are_fit}
use Rattle.history_laws.proofs.laws.tables_are_fit.Goals as goal

pub returns : goal.returns
returns c = tables_are_fit
