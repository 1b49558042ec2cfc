use Rattle.apart_laws.proofs.Tables.{plans_list_scalars}
use Rattle.apart_laws.proofs.laws.plans_list_scalars.Goals as goal

pub returns : goal.returns
returns c = plans_list_scalars
