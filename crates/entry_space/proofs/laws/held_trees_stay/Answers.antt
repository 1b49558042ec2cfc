use Rattle.entry_space.proofs.Stays.{held_trees_stay}
use Rattle.entry_space.proofs.laws.held_trees_stay.Goals as goal

pub returns : goal.returns
returns c = held_trees_stay c.trees_stay.ensures
