use Rattle.schema_laws.proofs.ReadFrom.{locations_are_read}
use Rattle.schema_laws.proofs.laws.locations_are_read.Goals as goal

pub returns : goal.returns
returns c = locations_are_read
