use Rattle.conversion_laws.proofs.Ordered.{notes_are_ordered}
use Rattle.conversion_laws.proofs.laws.notes_are_ordered.Goals as goal

pub returns : goal.returns
returns c = notes_are_ordered
