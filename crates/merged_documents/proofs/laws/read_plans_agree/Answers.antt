use Rattle.merged_documents.proofs.Documents.{read_plans_agree}
use Rattle.merged_documents.proofs.laws.read_plans_agree.Goals as goal

pub returns : goal.returns
returns c = read_plans_agree
