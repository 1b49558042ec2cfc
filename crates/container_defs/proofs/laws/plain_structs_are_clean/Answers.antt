use Rattle.container_defs.proofs.Plain.{nothing_is_told}
use Rattle.container_defs.proofs.laws.plain_structs_are_clean.Goals as goal

pub returns : goal.returns
returns c = nothing_is_told
