use Rattle.merge_laws.proofs.Growing.{more_steps_stay}
use Rattle.merge_laws.proofs.laws.more_steps_stay.Goals as goal

pub returns : goal.returns
returns c = more_steps_stay
