use Rattle.depth_laws.proofs.TreeLed.{trees_are_inside}
use Rattle.depth_laws.proofs.laws.trees_are_inside.Goals as goal

pub returns : goal.returns
returns c = trees_are_inside
