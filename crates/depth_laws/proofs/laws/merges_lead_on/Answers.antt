use Rattle.depth_laws.proofs.Leading.{merges_lead_on}
use Rattle.depth_laws.proofs.laws.merges_lead_on.Goals as goal

pub returns : goal.returns
returns c = merges_lead_on
