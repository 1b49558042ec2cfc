use Rattle.merged_documents.proofs.Shaped.{read_plans_are_emittable}
use Rattle.merged_documents.proofs.laws.read_plans_are_emittable.Goals as goal

pub returns : goal.returns
returns c = read_plans_are_emittable
