use Rattle.typify_convert.proofs.Coming.{histories_come_about}
use Rattle.typify_convert.proofs.laws.histories_come_about.Goals as goal

pub returns : goal.returns
returns c = histories_come_about
