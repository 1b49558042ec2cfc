use Rattle.judge_laws.proofs.Tables.{judges_may_change_since}
use Rattle.judge_laws.proofs.laws.judges_may_change_since.Goals as goal

pub returns : goal.returns
returns c = judges_may_change_since
