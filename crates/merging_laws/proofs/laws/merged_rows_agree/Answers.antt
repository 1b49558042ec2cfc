use Rattle.merging_laws.proofs.Rows.{merged_rows_agree}
use Rattle.merging_laws.proofs.laws.merged_rows_agree.Goals as goal

pub returns : goal.returns
returns c = merged_rows_agree
