use Rattle.model_defs.proofs.SettledRows.{rows_of_writing}
use Rattle.model_defs.proofs.laws.types_are_written.Goals as goal

pub returns : goal.returns
returns c = rows_of_writing
