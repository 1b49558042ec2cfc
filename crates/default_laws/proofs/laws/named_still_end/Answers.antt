use Rattle.default_laws.proofs.NamedDefaults.{named_still_end}
use Rattle.default_laws.proofs.laws.named_still_end.Goals as goal

pub returns : goal.returns
returns c = named_still_end
