use Rattle.told_laws.proofs.Telling.{told_notes_are_ordered}
use Rattle.told_laws.proofs.laws.told_notes_are_ordered.Goals as goal

pub returns : goal.returns
returns c = told_notes_are_ordered
