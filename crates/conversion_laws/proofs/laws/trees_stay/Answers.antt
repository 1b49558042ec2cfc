use Rattle.conversion_laws.proofs.MoreLevels.{trees_stay}
use Rattle.conversion_laws.proofs.laws.trees_stay.Goals as goal

pub returns : goal.returns
returns c = trees_stay
