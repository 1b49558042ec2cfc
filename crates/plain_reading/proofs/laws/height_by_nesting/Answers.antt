use Rattle.plain_reading.proofs.Nested.{height_by_nesting}
use Rattle.plain_reading.proofs.laws.height_by_nesting.Goals as goal

pub returns : goal.returns
returns c = height_by_nesting
