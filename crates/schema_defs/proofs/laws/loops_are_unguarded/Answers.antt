use Rattle.schema_defs.proofs.Decided.{loops_are_unguarded}
use Rattle.schema_defs.proofs.laws.loops_are_unguarded.Goals as goal

pub returns : goal.returns
returns c = loops_are_unguarded
