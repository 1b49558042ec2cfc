use Rattle.example_run.proofs.Admitted.{examples_are_admitted}
use Rattle.example_run.proofs.laws.examples_are_admitted.Goals as goal

pub returns : goal.returns
returns c = examples_are_admitted
