use Rattle.std.proofs.Common.{option_map, sym, ap, ◌∙◌}
use Rattle.schema_tree.specs.Document.{view as document_seen}
use Rattle.tree_types.specs.View.{table_view}
use Rattle.convert_document.specs.Keeping.{unread_view}
use Rattle.convert_document.proofs.Roots.{none_listed}
use Rattle.history_laws.specs.Added.{target_nodes}
use Rattle.typify_convert.proofs.collect.first_unread.Goals as goal

pub returns-in-None-clause-unread : goal.returns-in-None-clause-unread
returns-in-None-clause-unread g c =
    none_listed (g.T.Texts.relations c.args.texts.now) (document_seen c.args.document.now) (table_view c.args.table.now) (target_nodes (g.T.Texts.relations c.args.texts.now) (document_seen c.args.document.now) c.args.depth c.args.levels) (sym (ap (option_map unread_view) c.in-None.is) ∙ c.requires.stated)
