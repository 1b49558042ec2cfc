use Rattle.enum_defs.proofs.Spare.{references_lead_to_the_end}
use Rattle.enum_defs.proofs.laws.references_lead_to_the_end.Goals as goal

pub returns : goal.returns
returns c = references_lead_to_the_end
