use Rattle.merged_documents.proofs.Documents.{read_documents_agree}
use Rattle.merged_documents.proofs.laws.read_documents_agree.Goals as goal

pub returns : goal.returns
returns c = read_documents_agree
