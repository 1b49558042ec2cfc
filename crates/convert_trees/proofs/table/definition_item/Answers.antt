use Rattle.std.proofs.Common.{ap, subst, sym, ◌∙◌}
use Rattle.std.specs.Prelude.{Some}
use Rattle.schema_types.specs.View.{schema_view}
use Rattle.schema_tree.specs.Document.{view as document_seen}
use Rattle.schema_tree.specs.Fault.{fault_view}
use Rattle.convert_defs.specs.Convert.{as_item}
use Rattle.convert_walks.specs.Spot.{Spot}
use Rattle.convert_walks.specs.Tree.{entry_at, tree_at}
use Rattle.convert_trees.specs.Keeping.{kept_view}
use Rattle.document_merges.specs.Merges.{merges_in}
use Rattle.convert_trees.specs.Told.{Begins, IsTold, Refuses}
use Rattle.convert_trees.proofs.Ends.{if_err}
use Rattle.convert_trees.proofs.Telling.{want_refuses}
use Rattle.convert_trees.proofs.table.definition_item.Goals as goal

pub tree_at-requires : goal.tree_at-requires
tree_at-requires g c =
    let r = g.T.Texts.relations c.args.texts.now in
    let d = document_seen c.args.document.now in
    subst (λ (o : Spot). Begins (kept_view c.args.kept.now).merges (merges_in (tree_at r d c.args.depth c.args.levels o (schema_view c.args.schema.now)))) (sym (c.in_ok-start.ensures.place (Some c.args.name.now))) c.requires

pub returns-clause-item : goal.returns-clause-item
returns-clause-item g c =
    let r = g.T.Texts.relations c.args.texts.now in
    let d = document_seen c.args.document.now in
    c.in_ok-item.ensures.item
    ∙ ap (as_item c.args.name.now) (c.in_ok-tree.ensures.entry ∙ ap (λ (o : Spot). entry_at r d c.args.depth c.args.levels o (schema_view c.args.schema.now)) (c.in_ok-start.ensures.place (Some c.args.name.now)))

pub returns-clause-told : goal.returns-clause-told
returns-clause-told g c =
    let r = g.T.Texts.relations c.args.texts.now in
    let d = document_seen c.args.document.now in
    subst (λ (o : Spot). IsTold r d c.args.depth c.args.levels (tree_at r d c.args.depth c.args.levels o (schema_view c.args.schema.now)) (kept_view c.args.kept.now) (kept_view c.tree_at.new.kept))
    (c.in_ok-start.ensures.place (Some c.args.name.now)) c.in_ok-tree.ensures.told

pub returns-in_err-start-clause-refused : goal.returns-in_err-start-clause-refused
returns-in_err-start-clause-refused g c =
    if_err c.from_residual.result c.in_err-start.field-0.0 _ c.from_residual.ensures.1 (want_refuses _ _ _ _ _ _ _ _ c.in_err-start.ensures.memory)

pub returns-in_err-tree-clause-refused : goal.returns-in_err-tree-clause-refused
returns-in_err-tree-clause-refused g c =
    let r = g.T.Texts.relations c.args.texts.now in
    let d = document_seen c.args.document.now in
    if_err c.from_residual-in_err-tree.result c.in_err-tree.field-0.0 _ c.from_residual-in_err-tree.ensures.1
    (subst (λ (o : Spot). Refuses r d c.args.depth c.args.levels (g.T.Texts.faults c.args.texts.now) (g.T.Texts.faults c.tree_at.new.texts) (tree_at r d c.args.depth c.args.levels o (schema_view c.args.schema.now)) (fault_view c.in_err-tree.field-0.0))
    (c.in_ok-start.ensures.place (Some c.args.name.now)) c.in_err-tree.ensures.refused)

pub returns-in_err-item-clause-refused : goal.returns-in_err-item-clause-refused
returns-in_err-item-clause-refused g c =
    if_err c.from_residual-in_err-item.result c.in_err-item.field-0.0 _ c.from_residual-in_err-item.ensures.1 (want_refuses _ _ _ _ _ _ _ _ c.in_err-item.ensures.memory)
