use Rattle.entry_defs.proofs.Space.{trees_stay}
use Rattle.entry_defs.proofs.laws.trees_stay.Goals as goal

pub returns : goal.returns
returns c = trees_stay
