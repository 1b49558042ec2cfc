use Rattle.derive_receiver.proofs.Same.{same_item}
use Rattle.derive_receiver.proofs.laws.keeps_others.Goals as goal

pub returns : goal.returns
returns c = same_item
