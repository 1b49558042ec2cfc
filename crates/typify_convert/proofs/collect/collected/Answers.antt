use Rattle.std.proofs.Common.{option_map}
use Rattle.schema_tree.specs.Document.{view as document_seen}
use Rattle.tree_types.specs.View.{table_view}
use Rattle.convert_document.specs.Keeping.{unread_view}
use Rattle.convert_document.proofs.Ends.{if_err}
use Rattle.typify_convert.proofs.Told.{listed_later, asked_found, refuses_later}
use Rattle.typify_convert.proofs.collect.collected.Goals as goal

pub first_unread-requires-clause-stated : goal.first_unread-requires-clause-stated
first_unread-requires-clause-stated g c = listed_later (g.T.Texts.relations c.args.texts.now) (document_seen c.args.document.now) c.args.depth c.args.levels (g.T.Texts.relations c.targets_by.new.texts) _ _ c.in_ok-found.ensures.keeps c.in_ok-found.ensures.found

pub returns-clause-found : goal.returns-clause-found
returns-clause-found g c =
    asked_found (g.T.Texts.relations c.args.texts.now) (document_seen c.args.document.now) c.args.depth c.args.levels (g.T.Texts.relations c.targets_by.new.texts) (table_view c.in_ok-found.found.table) _ _ (option_map unread_view c.in_ok-unread.unread) c.in_ok-found.ensures.keeps c.in_ok-found.ensures.found
    c.in_ok-unread.ensures.unread

pub returns-in_err-unread-clause-refused : goal.returns-in_err-unread-clause-refused
returns-in_err-unread-clause-refused g c =
    if_err c.from_residual-in_err-unread.result c.in_err-unread.field-0.0 _ c.from_residual-in_err-unread.ensures.1
    (refuses_later (g.T.Texts.relations c.args.texts.now) (document_seen c.args.document.now) c.args.depth c.args.levels _ (g.T.Texts.relations c.targets_by.new.texts) _ _ _ c.in_ok-found.ensures.keeps c.in_ok-found.ensures.counts c.in_err-unread.ensures.refused)
