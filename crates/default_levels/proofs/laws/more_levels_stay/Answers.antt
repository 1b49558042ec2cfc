use Rattle.default_levels.proofs.Enough.{more_levels_stay}
use Rattle.default_levels.proofs.laws.more_levels_stay.Goals as goal

pub returns : goal.returns
returns c = more_levels_stay
