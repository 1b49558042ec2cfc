use Rattle.entry_space.proofs.Stays.{filled_trees_stay}
use Rattle.entry_space.proofs.laws.filled_trees_stay.Goals as goal

pub returns : goal.returns
returns c = filled_trees_stay
