use Rattle.depth_laws.proofs.TreeLed.{faults_are_inside}
use Rattle.depth_laws.proofs.laws.faults_are_inside.Goals as goal

pub returns : goal.returns
returns c = faults_are_inside
