use Rattle.derive_receiver.proofs.Gone.{gone_item}
use Rattle.derive_receiver.proofs.laws.leaves_none.Goals as goal

pub returns : goal.returns
returns c = gone_item
