use Rattle.conversion_laws.proofs.Ordered.{same_notes_are_one}
use Rattle.conversion_laws.proofs.laws.same_notes_are_one.Goals as goal

pub returns : goal.returns
returns c = same_notes_are_one
