use Rattle.schema_faults.proofs.Targets.{leads_to_targets}
use Rattle.schema_faults.proofs.laws.leads_to_targets.Goals as goal

pub returns : goal.returns
returns c = leads_to_targets
