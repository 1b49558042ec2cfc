use Rattle.model_defs.proofs.Rows.{rows_of_reading}
use Rattle.model_defs.proofs.laws.types_are_read.Goals as goal

pub returns : goal.returns
returns c = rows_of_reading
