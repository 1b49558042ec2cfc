use Rattle.id_trees.proofs.Taken.{items_mean_ids}
use Rattle.id_trees.proofs.laws.items_mean_ids.Goals as goal

pub returns : goal.returns
returns c = items_mean_ids c.ids_take_trees.ensures
