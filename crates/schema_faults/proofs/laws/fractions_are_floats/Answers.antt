use Rattle.schema_faults.proofs.Roots.{fractions_are_floats}
use Rattle.schema_faults.proofs.laws.fractions_are_floats.Goals as goal

pub returns : goal.returns
returns c = fractions_are_floats
