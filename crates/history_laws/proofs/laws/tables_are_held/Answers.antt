use Rattle.history_laws.proofs.Told.{tables_are_held}
use Rattle.history_laws.proofs.laws.tables_are_held.Goals as goal

pub returns : goal.returns
returns c = tables_are_held
