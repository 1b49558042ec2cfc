use Rattle.model_defs.proofs.FlatRefusals.{flat_refusals}
use Rattle.model_defs.proofs.laws.flat_structs_refuse.Goals as goal

pub returns : goal.returns
returns c = flat_refusals
