use Rattle.history_laws.proofs.Told.{items_stand}
use Rattle.history_laws.proofs.laws.items_stand.Goals as goal

pub returns : goal.returns
returns c = items_stand
