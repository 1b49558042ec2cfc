use Rattle.formed_plans.proofs.Plans.{plans_are_formed}
use Rattle.formed_plans.proofs.laws.plans_are_formed.Goals as goal

pub returns : goal.returns
returns c = plans_are_formed
