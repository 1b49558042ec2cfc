use Rattle.default_laws.proofs.Values.{levels_are_read}
use Rattle.default_laws.proofs.laws.levels_are_read.Goals as goal

pub returns : goal.returns
returns c = levels_are_read
