use Rattle.convert_document.proofs.Ends.{if_err}
use Rattle.convert_document.proofs.Telling.{want_refuses}
use Rattle.typify_convert.proofs.schema.unread_asked.Goals as goal

pub returns-in_err-below-clause-refused : goal.returns-in_err-below-clause-refused
returns-in_err-below-clause-refused g c =
    if_err c.from_residual.result c.in_err-below.field-0.0 _ c.from_residual.ensures.1 (want_refuses _ _ _ _ _ _ _ _ c.in_err-below.ensures.memory)
