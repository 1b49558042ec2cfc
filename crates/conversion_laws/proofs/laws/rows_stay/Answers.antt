use Rattle.conversion_laws.proofs.MoreLevels.{rows_stay}
use Rattle.conversion_laws.proofs.laws.rows_stay.Goals as goal

pub returns : goal.returns
returns c = rows_stay
