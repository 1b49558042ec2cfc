use Rattle.conversion_laws.proofs.DocumentLevels.{told_stays}
use Rattle.conversion_laws.proofs.laws.told_stays.Goals as goal

pub returns : goal.returns
returns c = told_stays
