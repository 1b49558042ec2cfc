use Rattle.model_defs.proofs.Flat.{small_names_apart}
use Rattle.model_defs.proofs.laws.names_of_small_values_differ.Goals as goal

pub returns : goal.returns
returns c = small_names_apart
