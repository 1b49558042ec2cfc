use Rattle.std.proofs.Common.{[], option_map}
use Rattle.schema_types.specs.View.{schema_view}
use Rattle.schema_tree.specs.Document.{view as document_seen}
use Rattle.merged_rows.specs.Starts.{spot_of}
use Rattle.entry_types.specs.View.{id_view}
use Rattle.convert_walks.specs.Tree.{tree_at}
use Rattle.convert_document.proofs.Ends.{if_err}
use Rattle.convert_document.proofs.Telling.{want_refuses}
use Rattle.typify_convert.proofs.Holding.{same_entry}
use Rattle.typify_convert.proofs.schema.placed.Goals as goal

pub returns-clause-added : goal.returns-clause-added
returns-clause-added g c h keeps =
    let ts = tree_at (g.T.Texts.relations c.args.texts.now) (document_seen c.args.document.now) c.args.depth c.args.levels (spot_of c.args.start.now [] (option_map (λ n. n.now) c.args.wanted)) (schema_view c.args.schema.now) in
    same_entry (g.T.Texts.relations c.args.texts.now) (document_seen c.args.document.now) c.args.depth c.args.levels _ h ts (id_view c.in_ok-id.id) _ _ c.in_ok-found.ensures.entry
    (c.in_ok-id.ensures.held (g.T.Texts.relations c.args.texts.now) (document_seen c.args.document.now) c.args.depth c.args.levels ts h c.in_ok-found.ensures.found keeps)

pub returns-clause-fine : goal.returns-clause-fine
returns-clause-fine g c = c.in_ok-found.ensures.found.fine

pub returns-in_err-id-clause-refused : goal.returns-in_err-id-clause-refused
returns-in_err-id-clause-refused g c =
    if_err c.from_residual-in_err-id.result c.in_err-id.field-0.0 _ c.from_residual-in_err-id.ensures.1 (want_refuses _ _ _ _ _ _ _ _ c.in_err-id.ensures.memory)
