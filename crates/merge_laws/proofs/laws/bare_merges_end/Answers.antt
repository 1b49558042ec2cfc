use Rattle.merge_laws.proofs.Ending.{bare_merges_end}
use Rattle.merge_laws.proofs.laws.bare_merges_end.Goals as goal

pub returns : goal.returns
returns c = bare_merges_end
