use Rattle.document_laws.proofs.Proper.{documents_are_proper}
use Rattle.document_laws.proofs.laws.documents_are_proper.Goals as goal

pub returns : goal.returns
returns c = documents_are_proper
