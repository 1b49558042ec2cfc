use Rattle.merging_laws.proofs.Whole.{merging_rows_agree}
use Rattle.merging_laws.proofs.laws.merging_rows_agree.Goals as goal

pub returns : goal.returns
returns c = merging_rows_agree
