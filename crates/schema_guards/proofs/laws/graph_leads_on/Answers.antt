use Rattle.schema_guards.proofs.Guards as guards
use Rattle.schema_guards.proofs.laws.graph_leads_on.Goals as goal

pub returns : goal.returns
returns c = guards.graph_leads_on
