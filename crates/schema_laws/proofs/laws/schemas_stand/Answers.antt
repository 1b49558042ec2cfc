use Rattle.schema_laws.proofs.Stand.{schemas_stand}
use Rattle.schema_laws.proofs.laws.schemas_stand.Goals as goal

pub returns : goal.returns
returns c = schemas_stand
