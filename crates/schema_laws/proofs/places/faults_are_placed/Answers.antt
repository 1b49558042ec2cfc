use Rattle.schema_laws.proofs.Placed.{faults_placed}
use Rattle.schema_laws.proofs.places.faults_are_placed.Goals as goal

pub returns : goal.returns
returns c = faults_placed _ c.names_differ.ensures
