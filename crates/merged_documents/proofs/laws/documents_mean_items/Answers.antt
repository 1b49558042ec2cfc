use Rattle.merged_documents.proofs.Composed.{documents_mean_items}
use Rattle.merged_documents.proofs.laws.documents_mean_items.Goals as goal

pub returns : goal.returns
returns c = documents_mean_items
