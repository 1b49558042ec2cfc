use Rattle.example_run.proofs.Admitted.{none_is_admitted}
use Rattle.example_run.proofs.laws.none_is_admitted.Goals as goal

pub returns : goal.returns
returns c = none_is_admitted
