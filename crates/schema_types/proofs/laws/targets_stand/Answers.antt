use Rattle.schema_types.proofs.Targets.{targets_stand}
use Rattle.schema_types.proofs.laws.targets_stand.Goals as goal

pub returns : goal.returns
returns c = targets_stand
