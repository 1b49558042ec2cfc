use Rattle.naming_defs.proofs.Good.{numbered_names_are_good}
use Rattle.naming_defs.proofs.laws.numbered_names_are_good.Goals as goal

pub returns : goal.returns
returns c = numbered_names_are_good
