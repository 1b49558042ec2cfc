use Rattle.model_defs.proofs.FlatSettled.{flat_structs_written}
use Rattle.model_defs.proofs.laws.flat_structs_are_written.Goals as goal

pub returns : goal.returns
returns c = flat_structs_written
