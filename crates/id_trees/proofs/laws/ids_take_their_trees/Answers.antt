use Rattle.id_trees.proofs.Taken.{ids_take_their_trees}
use Rattle.id_trees.proofs.laws.ids_take_their_trees.Goals as goal

pub returns : goal.returns
returns c = ids_take_their_trees c.ids_take_trees.ensures
