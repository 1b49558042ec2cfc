use Rattle.told_laws.proofs.Noted.{notes_are_ordered}
use Rattle.told_laws.proofs.laws.notes_are_ordered.Goals as goal

pub returns : goal.returns
returns c = notes_are_ordered
