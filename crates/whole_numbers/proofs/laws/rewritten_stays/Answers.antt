use Rattle.whole_numbers.proofs.Settled.{settled}
use Rattle.whole_numbers.proofs.laws.rewritten_stays.Goals as goal

pub returns : goal.returns
returns c = settled
