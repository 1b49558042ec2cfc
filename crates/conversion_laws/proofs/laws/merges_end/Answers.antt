use Rattle.conversion_laws.proofs.KeptEnds.{merges_end}
use Rattle.conversion_laws.proofs.laws.merges_end.Goals as goal

pub returns : goal.returns
returns c = merges_end
