use Rattle.judge_laws.proofs.Tables.{targets_stay}
use Rattle.judge_laws.proofs.laws.targets_stay.Goals as goal

pub returns : goal.returns
returns c = targets_stay
