use Rattle.merged_documents.proofs.Documents.{read_roots_agree}
use Rattle.merged_documents.proofs.laws.read_roots_agree.Goals as goal

pub returns : goal.returns
returns c = read_roots_agree
