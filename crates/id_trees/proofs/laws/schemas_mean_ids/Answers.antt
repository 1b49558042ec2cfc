use Rattle.id_trees.proofs.Taken.{schemas_mean_ids}
use Rattle.id_trees.proofs.laws.schemas_mean_ids.Goals as goal

pub returns : goal.returns
returns c = schemas_mean_ids c.ids_take_trees.ensures
