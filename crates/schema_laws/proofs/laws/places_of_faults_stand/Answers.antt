use Rattle.schema_laws.proofs.Placed.{faults_placed}
use Rattle.schema_laws.proofs.laws.places_of_faults_stand.Goals as goal

pub returns : goal.returns
returns c = faults_placed
