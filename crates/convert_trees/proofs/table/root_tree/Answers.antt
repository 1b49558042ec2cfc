use Rattle.std.specs.Prelude.{Some}
use Rattle.schema_types.specs.View.{schema_view}
use Rattle.schema_tree.specs.Document.{view as document_seen}
use Rattle.tree_types.specs.View.{tree_view}
use Rattle.convert_trees.proofs.Ends.{if_err}
use Rattle.convert_trees.proofs.Telling.{want_refuses}
use Rattle.convert_trees.proofs.Roots.{root_begins, root_converted, root_told, root_refused}
use Rattle.convert_trees.proofs.table.root_tree.Goals as goal

pub tree_at-requires : goal.tree_at-requires
tree_at-requires g c =
    root_begins (g.T.Texts.relations c.args.texts.now) (document_seen c.args.document.now) c.args.depth c.args.levels (schema_view c.root-schema.result.now) c.root_name-name.result.now _
    c.root-schema.ensures c.root_name-name.ensures (c.in_ok-start.ensures.place (Some c.root_name-name.result.now)) _ c.requires

pub returns-clause-entry : goal.returns-clause-entry
returns-clause-entry g c =
    root_converted (g.T.Texts.relations c.args.texts.now) (document_seen c.args.document.now) c.args.depth c.args.levels (schema_view c.root-schema.result.now) c.root_name-name.result.now _
    c.root-schema.ensures c.root_name-name.ensures (c.in_ok-start.ensures.place (Some c.root_name-name.result.now)) (tree_view c.in_ok-tree.tree) c.in_ok-tree.ensures.entry

pub returns-clause-told : goal.returns-clause-told
returns-clause-told g c =
    root_told (g.T.Texts.relations c.args.texts.now) (document_seen c.args.document.now) c.args.depth c.args.levels (schema_view c.root-schema.result.now) c.root_name-name.result.now _
    c.root-schema.ensures c.root_name-name.ensures (c.in_ok-start.ensures.place (Some c.root_name-name.result.now)) _ _ c.in_ok-tree.ensures.told

pub returns-in_err-start-clause-refused : goal.returns-in_err-start-clause-refused
returns-in_err-start-clause-refused g c =
    if_err c.from_residual.result c.in_err-start.field-0.0 _ c.from_residual.ensures.1 (want_refuses _ _ _ _ _ _ _ _ c.in_err-start.ensures.memory)

pub returns-in_err-tree-clause-refused : goal.returns-in_err-tree-clause-refused
returns-in_err-tree-clause-refused g c =
    if_err c.from_residual-in_err-tree.result c.in_err-tree.field-0.0 _ c.from_residual-in_err-tree.ensures.1
    (root_refused (g.T.Texts.relations c.args.texts.now) (document_seen c.args.document.now) c.args.depth c.args.levels (schema_view c.root-schema.result.now) c.root_name-name.result.now _
    c.root-schema.ensures c.root_name-name.ensures (c.in_ok-start.ensures.place (Some c.root_name-name.result.now)) _ _ _ c.in_err-tree.ensures.refused)
