use Rattle.plain_reading.proofs.Levels.{plain_by_nesting}
use Rattle.plain_reading.proofs.laws.plain_by_nesting.Goals as goal

pub returns : goal.returns
returns c = plain_by_nesting
