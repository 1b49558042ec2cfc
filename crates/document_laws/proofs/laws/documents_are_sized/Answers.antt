use Rattle.document_laws.proofs.Proper.{documents_are_sized}
use Rattle.document_laws.proofs.laws.documents_are_sized.Goals as goal

pub returns : goal.returns
returns c = documents_are_sized
