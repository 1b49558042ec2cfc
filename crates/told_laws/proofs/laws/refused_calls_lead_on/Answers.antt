use Rattle.told_laws.proofs.Deep.{refused_calls_lead_on}
use Rattle.told_laws.proofs.laws.refused_calls_lead_on.Goals as goal

pub returns : goal.returns
returns c = refused_calls_lead_on
