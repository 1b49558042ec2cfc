use Rattle.judge_laws.proofs.Tables.{judges_may_change}
use Rattle.judge_laws.proofs.laws.judges_may_change.Goals as goal

pub returns : goal.returns
returns c = judges_may_change
