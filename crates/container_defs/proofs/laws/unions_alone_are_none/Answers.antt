use Rattle.container_defs.proofs.Plain.{unions_alone}
use Rattle.container_defs.proofs.laws.unions_alone_are_none.Goals as goal

pub returns : goal.returns
returns c = unions_alone
