use Rattle.merged_documents.proofs.Composed.{documents_mean_models}
use Rattle.merged_documents.proofs.laws.documents_mean_models.Goals as goal

pub returns : goal.returns
returns c = documents_mean_models
