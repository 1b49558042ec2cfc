use Rattle.schema_defs.proofs.Unfold.{annotations_say_nothing}
use Rattle.schema_defs.proofs.laws.annotations_say_nothing.Goals as goal

pub returns : goal.returns
returns c = annotations_say_nothing
