use Rattle.history_laws.proofs.Told.{tables_are_emitted}
use Rattle.history_laws.proofs.laws.tables_are_emitted.Goals as goal

pub returns : goal.returns
returns c = tables_are_emitted c.spaces_emit_tables.ensures
