use Rattle.default_levels.proofs.Enough.{supplied_is_read}
use Rattle.default_levels.proofs.laws.supplied_is_read.Goals as goal

pub returns : goal.returns
returns c = supplied_is_read
