use Rattle.json_value.proofs.Equality.{same_Decides}
use Rattle.json_value.proofs.laws.equality_is_decided.Goals as goal

pub returns : goal.returns
returns c = same_Decides
