use Rattle.judge_laws.proofs.Tables.{clean_stays}
use Rattle.judge_laws.proofs.laws.clean_stays.Goals as goal

pub returns : goal.returns
returns c = clean_stays
