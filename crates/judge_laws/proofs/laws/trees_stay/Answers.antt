use Rattle.judge_laws.proofs.Trees.{trees_stay}
use Rattle.judge_laws.proofs.laws.trees_stay.Goals as goal

pub returns : goal.returns
returns c = trees_stay
