use Rattle.schema_tree.specs.Document.{view as document_seen}
use Rattle.convert_document.proofs.Ends.{if_err}
use Rattle.convert_document.proofs.Telling.{want_refuses}
use Rattle.typify_convert.proofs.collect.targets_placed.Goals as goal

pub returns-clause-added : goal.returns-clause-added
returns-clause-added g c h keeps = c.in_ok-hold_targets.ensures.held (g.T.Texts.relations c.args.texts.now) (document_seen c.args.document.now) c.args.depth c.args.levels h c.in_ok-found.ensures.table c.in_ok-found.ensures.found keeps

pub returns-clause-fine : goal.returns-clause-fine
returns-clause-fine g c = c.in_ok-found.ensures.found.fine

pub returns-in_err-hold_targets-clause-refused : goal.returns-in_err-hold_targets-clause-refused
returns-in_err-hold_targets-clause-refused g c =
    if_err c.from_residual-in_err-hold_targets.result c.in_err-hold_targets.field-0.0 _ c.from_residual-in_err-hold_targets.ensures.1 (want_refuses _ _ _ _ _ _ _ _ c.in_err-hold_targets.ensures.memory)
