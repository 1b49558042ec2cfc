use Rattle.schema_defs.proofs.Guarded.{spare_references_say_nothing}
use Rattle.schema_defs.proofs.laws.spare_references_say_nothing.Goals as goal

pub returns : goal.returns
returns c = spare_references_say_nothing
