use Rattle.model_defs.proofs.Flat.{flat_reading}
use Rattle.model_defs.proofs.laws.flat_structs_are_read.Goals as goal

pub returns : goal.returns
returns c = flat_reading
