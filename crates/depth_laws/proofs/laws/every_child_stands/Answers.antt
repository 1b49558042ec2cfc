use Rattle.depth_laws.proofs.EveryChild.{every_child_stands}
use Rattle.depth_laws.proofs.laws.every_child_stands.Goals as goal

pub returns : goal.returns
returns c = every_child_stands
