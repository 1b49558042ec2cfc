use Rattle.default_levels.proofs.Enough.{endless_stays}
use Rattle.default_levels.proofs.laws.endless_stays.Goals as goal

pub returns : goal.returns
returns c = endless_stays
