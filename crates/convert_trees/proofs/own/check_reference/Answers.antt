use Rattle.convert_trees.proofs.Causes.{reference_refused}
use Rattle.convert_trees.proofs.own.check_reference.Goals as goal

pub returns-in-Ok-None-clause-refused : goal.returns-in-Ok-None-clause-refused
returns-in-Ok-None-clause-refused c = reference_refused _ _ c.args.reference.now _ (rw c.in-Ok-None.field-0-is at c.in-Ok-None.ensures) c.refused.ensures
