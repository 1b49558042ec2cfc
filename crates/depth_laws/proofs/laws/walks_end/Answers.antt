use Rattle.depth_laws.proofs.Bounded.{walks_end}
use Rattle.depth_laws.proofs.laws.walks_end.Goals as goal

pub returns : goal.returns
returns c = walks_end
