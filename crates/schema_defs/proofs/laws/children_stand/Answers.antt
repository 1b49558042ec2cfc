use Rattle.schema_defs.proofs.Stand.{children_stand}
use Rattle.schema_defs.proofs.laws.children_stand.Goals as goal

pub returns : goal.returns
returns c = children_stand
