use Rattle.apart_laws.proofs.Tables.{plans_are_written_apart}
use Rattle.apart_laws.proofs.laws.plans_are_written_apart.Goals as goal

pub returns : goal.returns
returns c = plans_are_written_apart
