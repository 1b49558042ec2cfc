use Rattle.told_laws.proofs.Deep.{refused_calls_are_one_step_more}
use Rattle.told_laws.proofs.laws.refused_calls_are_one_step_more.Goals as goal

pub returns : goal.returns
returns c = refused_calls_are_one_step_more
