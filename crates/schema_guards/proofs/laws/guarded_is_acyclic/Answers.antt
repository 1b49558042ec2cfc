use Rattle.schema_guards.proofs.Guards as guards
use Rattle.schema_guards.proofs.laws.guarded_is_acyclic.Goals as goal

pub returns : goal.returns
returns c = guards.guarded_is_acyclic
