use Rattle.id_trees.proofs.Taken.{ids_have_trees}
use Rattle.id_trees.proofs.laws.ids_have_trees.Goals as goal

pub returns : goal.returns
returns c = ids_have_trees
