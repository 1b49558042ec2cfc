use Rattle.merged_documents.proofs.Mergeable.{read_documents_may_merge}
use Rattle.merged_documents.proofs.laws.read_documents_may_merge.Goals as goal

pub returns : goal.returns
returns c = read_documents_may_merge
