use Rattle.std.proofs.Common.{[], option_map}
use Rattle.schema_types.specs.View.{schema_view}
use Rattle.schema_tree.specs.Document.{view as document_seen}
use Rattle.merged_rows.specs.Starts.{spot_of}
use Rattle.convert_document.specs.Keeping.{unread_view}
use Rattle.convert_document.proofs.Ends.{if_err}
use Rattle.typify_convert.proofs.Told.{spot_listed, spot_fine, spot_found, spot_refused, spot_refused_later}
use Rattle.typify_convert.proofs.schema.found_at.Goals as goal

pub first_unread-requires-clause-stated : goal.first_unread-requires-clause-stated
first_unread-requires-clause-stated g c = spot_listed (g.T.Texts.relations c.args.texts.now) (document_seen c.args.document.now) c.args.depth c.args.levels (spot_of c.args.start.now [] (option_map (λ n. n.now) c.args.wanted)) (schema_view c.args.schema.now) (g.T.Texts.relations c.found_by.new.texts) _ _ c.in_ok-found.ensures.keeps c.in_ok-found.ensures.found

pub first_unread-requires-clause-fine : goal.first_unread-requires-clause-fine
first_unread-requires-clause-fine g c = spot_fine (g.T.Texts.relations c.args.texts.now) (document_seen c.args.document.now) c.args.depth c.args.levels (spot_of c.args.start.now [] (option_map (λ n. n.now) c.args.wanted)) (schema_view c.args.schema.now) (g.T.Texts.relations c.found_by.new.texts) c.in_ok-found.ensures.keeps c.in_ok-found.ensures.found.fine

pub returns-clause-found : goal.returns-clause-found
returns-clause-found g c =
    spot_found (g.T.Texts.relations c.args.texts.now) (document_seen c.args.document.now) c.args.depth c.args.levels (spot_of c.args.start.now [] (option_map (λ n. n.now) c.args.wanted)) (schema_view c.args.schema.now) (g.T.Texts.relations c.found_by.new.texts) _ _ (option_map unread_view c.in_ok-unread.unread)
    c.in_ok-found.ensures.keeps c.in_ok-found.ensures.found c.in_ok-unread.ensures.unread

pub returns-in_err-found-clause-refused : goal.returns-in_err-found-clause-refused
returns-in_err-found-clause-refused g c =
    if_err c.from_residual.result c.in_err-found.field-0.0 _ c.from_residual.ensures.1 (spot_refused (g.T.Texts.relations c.args.texts.now) (document_seen c.args.document.now) c.args.depth c.args.levels (spot_of c.args.start.now [] (option_map (λ n. n.now) c.args.wanted)) (schema_view c.args.schema.now) _ _ _ c.in_err-found.ensures.refused)

pub returns-in_err-unread-clause-refused : goal.returns-in_err-unread-clause-refused
returns-in_err-unread-clause-refused g c =
    if_err c.from_residual-in_err-unread.result c.in_err-unread.field-0.0 _ c.from_residual-in_err-unread.ensures.1
    (spot_refused_later (g.T.Texts.relations c.args.texts.now) (document_seen c.args.document.now) c.args.depth c.args.levels (spot_of c.args.start.now [] (option_map (λ n. n.now) c.args.wanted)) (schema_view c.args.schema.now) _ (g.T.Texts.relations c.found_by.new.texts) _ _ _
    c.in_ok-found.ensures.keeps c.in_ok-found.ensures.counts c.in_err-unread.ensures.refused)
