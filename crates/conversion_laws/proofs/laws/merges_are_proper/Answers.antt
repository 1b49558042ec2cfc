use Rattle.conversion_laws.proofs.KeptProper.{merges_are_proper}
use Rattle.conversion_laws.proofs.laws.merges_are_proper.Goals as goal

pub returns : goal.returns
returns c = merges_are_proper
