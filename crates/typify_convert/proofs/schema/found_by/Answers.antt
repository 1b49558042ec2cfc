use Rattle.std.proofs.Common.{option_map}
use Rattle.schema_types.specs.View.{schema_view}
use Rattle.schema_tree.specs.Document.{view as document_seen}
use Rattle.convert_document.specs.Merges.{merges_view}
use Rattle.convert_document.specs.Keeping.{kept_view}
use Rattle.typify_convert.proofs.Told.{from_begins, found_of}
use Rattle.typify_convert.proofs.schema.found_by.Goals as goal

pub tree_at-requires : goal.tree_at-requires
tree_at-requires g c =
    from_begins (g.T.Texts.relations c.args.texts.now) (document_seen c.args.document.now) c.args.depth c.args.levels c.args.start.now (schema_view c.args.schema.now) _ (merges_view c.args.merges.now.items) _ (option_map (λ n. n.now) c.args.wanted) c.nothing_kept-kept.ensures c.requires.merges

pub returns-clause-found : goal.returns-clause-found
returns-clause-found g c = found_of (g.T.Texts.relations c.args.texts.now) (document_seen c.args.document.now) c.args.depth c.args.levels _ (merges_view c.args.merges.now.items) _ _ (kept_view c.tree_at.new.kept) c.nothing_kept-kept.ensures c.in_ok-tree.ensures.told
