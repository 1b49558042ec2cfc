use Rattle.model_defs.proofs.Reach.{items_never_spent}
use Rattle.model_defs.proofs.laws.items_are_never_spent.Goals as goal

pub returns : goal.returns
returns c = items_never_spent
