use Rattle.writing_laws.proofs.Settled.{settled_is_read_alike}
use Rattle.writing_laws.proofs.laws.settled_is_read_alike.Goals as goal

pub returns : goal.returns
returns c = settled_is_read_alike
