use Rattle.told_laws.proofs.Telling.{calls_admit}
use Rattle.told_laws.proofs.laws.calls_admit.Goals as goal

pub returns : goal.returns
returns c = calls_admit
