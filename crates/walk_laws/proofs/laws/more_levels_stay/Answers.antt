use Rattle.walk_laws.proofs.MoreLevels.{more_levels_stay}
use Rattle.walk_laws.proofs.laws.more_levels_stay.Goals as goal

pub returns : goal.returns
returns c = more_levels_stay
