use Rattle.enum_defs.proofs.Spare.{spare_references_open_nothing}
use Rattle.enum_defs.proofs.laws.spare_references_open_nothing.Goals as goal

pub returns : goal.returns
returns c = spare_references_open_nothing
