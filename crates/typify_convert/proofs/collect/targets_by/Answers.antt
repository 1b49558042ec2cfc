use Rattle.schema_tree.specs.Document.{view as document_seen}
use Rattle.convert_document.specs.Keeping.{kept_view}
use Rattle.convert_document.specs.Merges.{merges_view}
use Rattle.history_laws.specs.Added.{target_nodes}
use Rattle.typify_convert.proofs.Told.{targets_begin, none_begins, found_of}
use Rattle.typify_convert.proofs.collect.targets_by.Goals as goal

pub targets_with-requires : goal.targets_with-requires
targets_with-requires g c =
    none_begins (g.T.Texts.relations c.args.texts.now) (document_seen c.args.document.now) c.args.depth c.args.levels _ (merges_view c.args.merges.now.items) (target_nodes (g.T.Texts.relations c.args.texts.now) (document_seen c.args.document.now) c.args.depth c.args.levels) _ c.nothing_kept-kept.ensures (targets_begin (g.T.Texts.relations c.args.texts.now) (document_seen c.args.document.now) c.args.depth c.args.levels _ c.requires)

pub returns-clause-found : goal.returns-clause-found
returns-clause-found g c =
    found_of (g.T.Texts.relations c.args.texts.now) (document_seen c.args.document.now) c.args.depth c.args.levels _ (merges_view c.args.merges.now.items) (target_nodes (g.T.Texts.relations c.args.texts.now) (document_seen c.args.document.now) c.args.depth c.args.levels) _ (kept_view c.targets_with.new.kept) c.nothing_kept-kept.ensures c.in_ok-table.ensures.told
