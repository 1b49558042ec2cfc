use Rattle.default_levels.proofs.Stays.{ended_stays}
use Rattle.default_levels.proofs.laws.ended_stays.Goals as goal

pub returns : goal.returns
returns c = ended_stays
