use Rattle.history_laws.proofs.Told.{schemas_stand}
use Rattle.history_laws.proofs.laws.schemas_stand.Goals as goal

pub returns : goal.returns
returns c = schemas_stand
