use Rattle.schema_defs.proofs.Decided.{guarded_is_decided}
use Rattle.schema_defs.proofs.laws.guarded_is_decided.Goals as goal

pub returns : goal.returns
returns c = guarded_is_decided
