use Rattle.enum_defs.proofs.Spare.{kinds_unfold}
use Rattle.enum_defs.proofs.laws.kinds_unfold.Goals as goal

pub returns : goal.returns
returns c = kinds_unfold
