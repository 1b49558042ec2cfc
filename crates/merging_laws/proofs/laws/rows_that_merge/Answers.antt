use Rattle.merging_laws.proofs.Forms.{rows_that_merge}
use Rattle.merging_laws.proofs.laws.rows_that_merge.Goals as goal

pub returns : goal.returns
returns c = rows_that_merge
