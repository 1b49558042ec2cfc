use Rattle.schema_laws.proofs.Told.{told_places_stand}
use Rattle.schema_laws.proofs.laws.told_places_stand.Goals as goal

pub returns : goal.returns
returns c = told_places_stand
