use Rattle.schema_laws.proofs.Told.{references_stand}
use Rattle.schema_laws.proofs.laws.references_stand.Goals as goal

pub returns : goal.returns
returns c = references_stand
