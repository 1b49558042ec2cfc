use Rattle.value_models.proofs.Found.{fields_are_found}
use Rattle.value_models.proofs.laws.fields_are_found.Goals as goal

pub returns : goal.returns
returns c = fields_are_found
