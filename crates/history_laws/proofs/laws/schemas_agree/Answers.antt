use Rattle.history_laws.proofs.Agreed.{schemas_agree}
use Rattle.history_laws.proofs.laws.schemas_agree.Goals as goal

pub returns : goal.returns
returns c = schemas_agree
