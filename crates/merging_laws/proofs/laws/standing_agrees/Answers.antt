use Rattle.merging_laws.proofs.Standing.{standing_agrees}
use Rattle.merging_laws.proofs.laws.standing_agrees.Goals as goal

pub returns : goal.returns
returns c = standing_agrees
