use Rattle.reading_defs.proofs.Levels.{reading_agrees}
use Rattle.reading_defs.proofs.laws.reading_agrees.Goals as goal

pub returns : goal.returns
returns c = reading_agrees
