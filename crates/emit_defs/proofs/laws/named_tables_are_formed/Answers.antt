use Rattle.emit_defs.proofs.Named.{named_tables_are_formed}
use Rattle.emit_defs.proofs.laws.named_tables_are_formed.Goals as goal

pub returns : goal.returns
returns c = named_tables_are_formed
