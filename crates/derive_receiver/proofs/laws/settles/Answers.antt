use Rattle.derive_receiver.proofs.Gone.{settled_item}
use Rattle.derive_receiver.proofs.laws.settles.Goals as goal

pub returns : goal.returns
returns c = settled_item
