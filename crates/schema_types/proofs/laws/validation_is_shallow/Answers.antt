use Rattle.schema_types.proofs.Judged.{validation_is_shallow}
use Rattle.schema_types.proofs.laws.validation_is_shallow.Goals as goal

pub returns : goal.returns
returns c = validation_is_shallow
