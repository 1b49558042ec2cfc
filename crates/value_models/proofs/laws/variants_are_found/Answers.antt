use Rattle.value_models.proofs.Found.{variants_are_found}
use Rattle.value_models.proofs.laws.variants_are_found.Goals as goal

pub returns : goal.returns
returns c = variants_are_found
