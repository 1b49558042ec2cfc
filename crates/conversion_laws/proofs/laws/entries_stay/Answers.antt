use Rattle.conversion_laws.proofs.MoreLevels.{entries_stay}
use Rattle.conversion_laws.proofs.laws.entries_stay.Goals as goal

pub returns : goal.returns
returns c = entries_stay
