use Rattle.derive_model.proofs.PlainTables.{plain_tables}
use Rattle.derive_model.proofs.laws.tables_without_defaults_are_sound.Goals as goal

pub returns : goal.returns
returns c = plain_tables
