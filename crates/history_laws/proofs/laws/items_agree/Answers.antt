use Rattle.history_laws.proofs.Agreed.{items_agree}
use Rattle.history_laws.proofs.laws.items_agree.Goals as goal

pub returns : goal.returns
returns c = items_agree
