use Rattle.whole_numbers.proofs.Settled.{short}
use Rattle.whole_numbers.proofs.laws.never_grows.Goals as goal

pub returns : goal.returns
returns c = short
