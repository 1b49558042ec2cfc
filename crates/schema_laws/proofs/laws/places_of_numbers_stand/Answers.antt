use Rattle.schema_laws.proofs.Placed.{numbers_placed}
use Rattle.schema_laws.proofs.laws.places_of_numbers_stand.Goals as goal

pub returns : goal.returns
returns c = numbers_placed
