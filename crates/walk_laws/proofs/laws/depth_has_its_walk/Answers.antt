use Rattle.walk_laws.proofs.Deep.{depth_has_its_walk}
use Rattle.walk_laws.proofs.laws.depth_has_its_walk.Goals as goal

pub returns : goal.returns
returns c = depth_has_its_walk
