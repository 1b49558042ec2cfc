use Rattle.evolve_rows.proofs.Looked.{tuple_asked}
use Rattle.evolve_rows.proofs.asked.+asked_by.Goals as goal

pub returns-in-Tuple-clause-form : goal.returns-in-Tuple-clause-form
returns-in-Tuple-clause-form t c = tuple_asked c.args.ty.now c.in-Tuple.parts c.deref-in-Tuple.result.now c.in-Tuple.is c.deref-in-Tuple.ensures.value
