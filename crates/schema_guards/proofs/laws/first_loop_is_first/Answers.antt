use Rattle.schema_guards.proofs.Guards as guards
use Rattle.schema_guards.proofs.laws.first_loop_is_first.Goals as goal

pub returns : goal.returns
returns c = guards.first_loop_is_first
