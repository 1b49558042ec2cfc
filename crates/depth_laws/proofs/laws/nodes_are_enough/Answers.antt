use Rattle.depth_laws.proofs.TreeLed.{nodes_are_enough}
use Rattle.depth_laws.proofs.laws.nodes_are_enough.Goals as goal

pub returns : goal.returns
returns c = nodes_are_enough
