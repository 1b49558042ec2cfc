use Rattle.schema_laws.proofs.ToldReferences.{told_references_are_read}
use Rattle.schema_laws.proofs.laws.told_references_are_read.Goals as goal

pub returns : goal.returns
returns c = told_references_are_read
