use Rattle.schema_faults.proofs.Roots.{reads_without_faults}
use Rattle.schema_faults.proofs.laws.reads_without_faults.Goals as goal

pub returns : goal.returns
returns c = reads_without_faults
