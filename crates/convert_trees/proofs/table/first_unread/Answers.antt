use Rattle.std.proofs.Common.{ap, sym, ◌∙◌}
use Rattle.std.specs.Prelude.{option_map}
use Rattle.schema_tree.specs.Document.{view as document_seen}
use Rattle.tree_types.specs.View.{table_view}
use Rattle.convert_walks.specs.Tree.{document_tree}
use Rattle.convert_trees.specs.Keeping.{unread_view}
use Rattle.convert_trees.proofs.Roots.{none_listed}
use Rattle.convert_trees.proofs.Ruled.{if_ok_mapped}
use Rattle.convert_trees.proofs.table.first_unread.Goals as goal

pub returns-in-Some-clause-unread : goal.returns-in-Some-clause-unread
returns-in-Some-clause-unread g c = if_ok_mapped c.unread_by_table.result _ _ (λ o h l. h) c.unread_by_table.ensures.unread

pub returns-in-None-clause-unread : goal.returns-in-None-clause-unread
returns-in-None-clause-unread g c = λ l.
    let r = g.T.Texts.relations c.args.texts.now in
    let d = document_seen c.args.document.now in
    none_listed r d (table_view c.args.table.now) (document_tree r d c.args.depth c.args.levels) (sym (ap (option_map unread_view) c.in-None.is) ∙ l)
