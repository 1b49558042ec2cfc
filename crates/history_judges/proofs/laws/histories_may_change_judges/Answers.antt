use Rattle.history_judges.proofs.Grown.{histories_may_change_judges}
use Rattle.history_judges.proofs.laws.histories_may_change_judges.Goals as goal

pub returns : goal.returns
returns c = histories_may_change_judges
