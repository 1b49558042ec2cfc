use Rattle.value_models.proofs.Found.{containers_are_found}
use Rattle.value_models.proofs.laws.containers_are_found.Goals as goal

pub returns : goal.returns
returns c = containers_are_found
