use Rattle.entry_laws.proofs.Following.{allowed_are_enough}
use Rattle.entry_laws.proofs.laws.allowed_are_enough.Goals as goal

pub returns : goal.returns
returns c = allowed_are_enough
