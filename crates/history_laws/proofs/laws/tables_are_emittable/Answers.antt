use Rattle.history_laws.proofs.Coming.{tables_are_emittable}
use Rattle.history_laws.proofs.laws.tables_are_emittable.Goals as goal

pub returns : goal.returns
returns c = tables_are_emittable
