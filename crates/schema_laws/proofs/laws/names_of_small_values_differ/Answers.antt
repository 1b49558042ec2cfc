use Rattle.schema_laws.proofs.Small.{small_names_differ}
use Rattle.schema_laws.proofs.laws.names_of_small_values_differ.Goals as goal

pub returns : goal.returns
returns c = small_names_differ
