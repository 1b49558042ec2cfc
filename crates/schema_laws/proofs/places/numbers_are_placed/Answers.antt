use Rattle.schema_laws.proofs.Placed.{numbers_placed}
use Rattle.schema_laws.proofs.places.numbers_are_placed.Goals as goal

pub returns : goal.returns
returns c = numbers_placed _ c.names_of_each_differ.ensures
