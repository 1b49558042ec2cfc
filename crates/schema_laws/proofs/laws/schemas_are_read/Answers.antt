use Rattle.schema_laws.proofs.Located.{schemas_are_read}
use Rattle.schema_laws.proofs.laws.schemas_are_read.Goals as goal

pub returns : goal.returns
returns c = schemas_are_read
