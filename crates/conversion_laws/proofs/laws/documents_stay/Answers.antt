use Rattle.conversion_laws.proofs.DocumentLevels.{documents_stay}
use Rattle.conversion_laws.proofs.laws.documents_stay.Goals as goal

pub returns : goal.returns
returns c = documents_stay
