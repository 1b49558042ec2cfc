use Rattle.container_defs.proofs.Marks.{derives_agree}
use Rattle.container_defs.proofs.laws.derives_agree.Goals as goal

pub returns : goal.returns
returns c = derives_agree
