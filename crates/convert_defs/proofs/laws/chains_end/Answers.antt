use Rattle.convert_defs.proofs.Chains.{chains_end}
use Rattle.convert_defs.proofs.laws.chains_end.Goals as goal

pub returns : goal.returns
returns c = chains_end
