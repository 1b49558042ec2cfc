use Rattle.covers_run.proofs.Stays.{old_values_are_still_admitted}
use Rattle.covers_run.proofs.laws.old_values_are_still_admitted.Goals as goal

pub returns : goal.returns
returns c = old_values_are_still_admitted
