use Rattle.container_defs.proofs.Plain.{fields_are_read}
use Rattle.container_defs.proofs.laws.plain_structs_are_read.Goals as goal

pub returns : goal.returns
returns c = fields_are_read
