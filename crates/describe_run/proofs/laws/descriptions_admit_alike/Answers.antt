use Rattle.describe_run.proofs.Alike.{descriptions_admit_alike}
use Rattle.describe_run.proofs.laws.descriptions_admit_alike.Goals as goal

pub returns : goal.returns
returns c = descriptions_admit_alike
