use Rattle.merged_documents.proofs.Documents.{read_documents_are_planned}
use Rattle.merged_documents.proofs.laws.read_documents_are_planned.Goals as goal

pub returns : goal.returns
returns c = read_documents_are_planned
