use Rattle.schema_tree.proofs.NoFloat.{no_float}
use Rattle.schema_tree.proofs.number.i64_alone_has_no_float.Goals as goal

pub returns : goal.returns
returns c = no_float
