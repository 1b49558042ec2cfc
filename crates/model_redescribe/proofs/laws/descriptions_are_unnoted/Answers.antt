use Rattle.model_redescribe.proofs.Again.{descriptions_unnoted}
use Rattle.model_redescribe.proofs.laws.descriptions_are_unnoted.Goals as goal

pub returns : goal.returns
returns c = descriptions_unnoted
