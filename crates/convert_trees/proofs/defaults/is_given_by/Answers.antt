use Rattle.std.proofs.Common.{ap}
use Rattle.std.specs.Prelude.{Err}
use Rattle.convert_trees.proofs.defaults.is_given_by.Goals as goal

pub returns-in-Err-clause-refused : goal.returns-in-Err-clause-refused
returns-in-Err-clause-refused g c = c.text_fault.ensures _ _ (λ e. c.in-Err.ensures.failed (ap Err e))
