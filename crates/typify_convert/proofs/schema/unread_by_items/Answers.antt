use Rattle.std.proofs.Common.{[], option_map}
use Rattle.schema_types.specs.View.{schema_view}
use Rattle.schema_tree.specs.Document.{view as document_seen}
use Rattle.merged_rows.specs.Starts.{spot_of}
use Rattle.tree_types.specs.View.{table_view}
use Rattle.convert_document.proofs.Ends.{if_err}
use Rattle.typify_convert.proofs.Told.{spot_unread, items_refused, again_refused}
use Rattle.typify_convert.proofs.schema.unread_by_items.Goals as goal

pub returns-clause-unread : goal.returns-clause-unread
returns-clause-unread g c =
    spot_unread (g.T.Texts.relations c.args.texts.now) (document_seen c.args.document.now) c.args.depth c.args.levels (spot_of c.args.start.now [] (option_map (λ n. n.now) c.args.wanted)) (schema_view c.args.schema.now) (g.T.Texts.relations c.items_of.new.texts) (table_view c.in_ok-table.table) _ _
    c.in_ok-table.ensures.keeps c.in_ok-table.ensures.table c.in_ok-found.ensures.found

pub returns-in_err-table-clause-refused : goal.returns-in_err-table-clause-refused
returns-in_err-table-clause-refused g c =
    if_err c.from_residual.result c.in_err-table.field-0.0 _ c.from_residual.ensures.1
    (items_refused (g.T.Texts.relations c.args.texts.now) (document_seen c.args.document.now) c.args.depth c.args.levels (spot_of c.args.start.now [] (option_map (λ n. n.now) c.args.wanted)) (schema_view c.args.schema.now) _ _ _ c.requires.fine c.in_err-table.ensures.refused)

pub returns-in_err-found-clause-refused : goal.returns-in_err-found-clause-refused
returns-in_err-found-clause-refused g c =
    if_err c.from_residual-in_err-found.result c.in_err-found.field-0.0 _ c.from_residual-in_err-found.ensures.1
    (again_refused (g.T.Texts.relations c.args.texts.now) (document_seen c.args.document.now) c.args.depth c.args.levels (spot_of c.args.start.now [] (option_map (λ n. n.now) c.args.wanted)) (schema_view c.args.schema.now) _ (g.T.Texts.relations c.items_of.new.texts) _ _ _
    c.in_ok-table.ensures.keeps c.in_ok-table.ensures.counts c.in_err-found.ensures.refused)
