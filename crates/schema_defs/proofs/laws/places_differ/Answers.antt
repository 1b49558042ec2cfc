use Rattle.schema_defs.proofs.Places.{places_differ}
use Rattle.schema_defs.proofs.laws.places_differ.Goals as goal

pub returns : goal.returns
returns c = places_differ
