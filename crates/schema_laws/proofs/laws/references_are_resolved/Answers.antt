use Rattle.schema_laws.proofs.Resolved.{references_are_resolved}
use Rattle.schema_laws.proofs.laws.references_are_resolved.Goals as goal

pub returns : goal.returns
returns c = references_are_resolved
