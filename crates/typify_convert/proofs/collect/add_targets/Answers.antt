use Rattle.convert_document.proofs.Ends.{if_err}
use Rattle.convert_document.proofs.Telling.{want_refuses}
use Rattle.typify_convert.proofs.collect.add_targets.Goals as goal

pub returns-in_err-merges-clause-refused : goal.returns-in_err-merges-clause-refused
returns-in_err-merges-clause-refused g c =
    if_err c.from_residual.result c.in_err-merges.field-0.0 _ c.from_residual.ensures.1 (want_refuses _ _ _ _ _ _ _ _ c.in_err-merges.ensures.memory)
