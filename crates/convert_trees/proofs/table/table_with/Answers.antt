use Rattle.std.proofs.Common.{map}
use Rattle.schema_tree.specs.Document.{view as document_seen}
use Rattle.tree_types.specs.View.{table_view, target_entry, tree_view}
use Rattle.convert_trees.proofs.Ends.{if_err}
use Rattle.convert_trees.proofs.Roots.{begins_definitions, begins_root, definitions_refuse, root_refuses, whole_table, whole_told}
use Rattle.convert_trees.proofs.Telling.{want_refuses}
use Rattle.convert_trees.proofs.table.table_with.Goals as goal

pub definition_targets-requires : goal.definition_targets-requires
definition_targets-requires g c =
    let r = g.T.Texts.relations c.args.texts.now in
    let d = document_seen c.args.document.now in
    begins_definitions r d c.args.depth c.args.levels _ c.requires

pub root_tree-requires : goal.root_tree-requires
root_tree-requires g c =
    let r = g.T.Texts.relations c.args.texts.now in
    let d = document_seen c.args.document.now in
    begins_root r d c.args.depth c.args.levels _ _ (g.T.Texts.relations c.definition_targets.new.texts) c.in_ok-targets.ensures.keeps c.in_ok-targets.ensures.told c.requires

pub returns-clause-table : goal.returns-clause-table
returns-clause-table g c =
    let r = g.T.Texts.relations c.args.texts.now in
    let d = document_seen c.args.document.now in
    let most = c.args.depth in
    whole_table r d most c.args.levels (g.T.Texts.relations c.definition_targets.new.texts) (table_view c.in_ok-table.table) (map target_entry c.in_ok-targets.targets.items) (tree_view c.in_ok-root.root)
    c.in_ok-table.ensures.table c.in_ok-targets.ensures.targets c.in_ok-targets.ensures.keeps c.in_ok-root.ensures.entry

pub returns-clause-told : goal.returns-clause-told
returns-clause-told g c =
    let r = g.T.Texts.relations c.args.texts.now in
    let d = document_seen c.args.document.now in
    whole_told r d c.args.depth c.args.levels _ _ _ (g.T.Texts.relations c.definition_targets.new.texts) c.in_ok-targets.ensures.keeps c.in_ok-targets.ensures.told c.in_ok-root.ensures.told

pub returns-in_err-targets-clause-refused : goal.returns-in_err-targets-clause-refused
returns-in_err-targets-clause-refused g c =
    let r = g.T.Texts.relations c.args.texts.now in
    let d = document_seen c.args.document.now in
    let most = c.args.depth in
    if_err c.from_residual.result c.in_err-targets.field-0.0 _ c.from_residual.ensures.1
    (definitions_refuse r d most c.args.levels _ _ _ c.in_err-targets.ensures.refused)

pub returns-in_err-root-clause-refused : goal.returns-in_err-root-clause-refused
returns-in_err-root-clause-refused g c =
    let r = g.T.Texts.relations c.args.texts.now in
    let d = document_seen c.args.document.now in
    let most = c.args.depth in
    if_err c.from_residual-in_err-root.result c.in_err-root.field-0.0 _ c.from_residual-in_err-root.ensures.1
    (root_refuses r d most c.args.levels _ _ _ (g.T.Texts.relations c.definition_targets.new.texts) _ _ _ c.in_ok-targets.ensures.keeps c.in_ok-targets.ensures.counts c.in_ok-targets.ensures.told c.in_err-root.ensures.refused)

pub returns-in_err-table-clause-refused : goal.returns-in_err-table-clause-refused
returns-in_err-table-clause-refused g c =
    let r = g.T.Texts.relations c.args.texts.now in
    let d = document_seen c.args.document.now in
    let most = c.args.depth in
    if_err c.from_residual-in_err-table.result c.in_err-table.field-0.0 _ c.from_residual-in_err-table.ensures.1
    (want_refuses _ _ _ _ _ _ _ _ c.in_err-table.ensures.memory)
