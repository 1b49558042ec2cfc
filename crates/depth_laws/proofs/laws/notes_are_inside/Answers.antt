use Rattle.depth_laws.proofs.TreeNotes.{notes_are_inside}
use Rattle.depth_laws.proofs.laws.notes_are_inside.Goals as goal

pub returns : goal.returns
returns c = notes_are_inside
