use Rattle.schema_defs.proofs.Unfold.{admission_unfolds}
use Rattle.schema_defs.proofs.laws.admission_unfolds.Goals as goal

pub returns : goal.returns
returns c = admission_unfolds
