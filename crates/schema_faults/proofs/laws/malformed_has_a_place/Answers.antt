use Rattle.schema_faults.proofs.Filled.{malformed_has_a_place}
use Rattle.schema_faults.proofs.laws.malformed_has_a_place.Goals as goal

pub returns : goal.returns
returns c = malformed_has_a_place
