use Rattle.model_redescribe.proofs.Told.{unnoted_described}
use Rattle.model_redescribe.proofs.laws.unnoted_are_described.Goals as goal

pub returns : goal.returns
returns c = unnoted_described
