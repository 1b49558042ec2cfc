use Rattle.std.proofs.Common.{List, ap, subst, sym, ◌∙◌, option_map}
use Rattle.schema_types.specs.View.{schema_view}
use Rattle.schema_tree.specs.Document.{view as document_seen}
use Rattle.schema_tree.specs.Fault.{fault_view}
use Rattle.convert_walks.specs.Tree.{entry_at, tree_at}
use Rattle.merged_rows.specs.Starts.{spot_of}
use Rattle.row_findings.specs.declared.part.Steps.{Steps}
use Rattle.convert_trees.specs.Keeping.{kept_view}
use Rattle.document_merges.specs.Merges.{merges_in}
use Rattle.convert_trees.specs.Told.{Begins, IsTold, Refuses}
use Rattle.convert_trees.proofs.Ends.{if_err}
use Rattle.convert_trees.proofs.table.tree_at.Goals as goal

pub convert-requires : goal.convert-requires
convert-requires g c =
    let r = g.T.Texts.relations c.args.texts.now in
    let d = document_seen c.args.document.now in
    let h = option_map (λ n. n.now) c.args.name in
    subst (λ (ks : List Steps). Begins (kept_view c.args.kept.now).merges (merges_in (tree_at r d c.args.depth c.args.levels (spot_of c.args.start.now ks h) (schema_view c.args.schema.now)))) (sym c.new-trail.ensures.items) c.requires

pub returns-clause-entry : goal.returns-clause-entry
returns-clause-entry g c =
    let r = g.T.Texts.relations c.args.texts.now in
    let d = document_seen c.args.document.now in
    let h = option_map (λ n. n.now) c.args.name in
    c.in_ok-tree.ensures.entry ∙ ap (λ (ks : List Steps). entry_at r d c.args.depth c.args.levels (spot_of c.args.start.now ks h) (schema_view c.args.schema.now)) c.new-trail.ensures.items

pub returns-clause-told : goal.returns-clause-told
returns-clause-told g c =
    let r = g.T.Texts.relations c.args.texts.now in
    let d = document_seen c.args.document.now in
    let h = option_map (λ n. n.now) c.args.name in
    subst (λ (ks : List Steps). IsTold r d c.args.depth c.args.levels (tree_at r d c.args.depth c.args.levels (spot_of c.args.start.now ks h) (schema_view c.args.schema.now)) (kept_view c.args.kept.now) (kept_view c.convert.new.kept))
    c.new-trail.ensures.items c.in_ok-tree.ensures.told

pub returns-in_err-tree-clause-refused : goal.returns-in_err-tree-clause-refused
returns-in_err-tree-clause-refused g c =
    let r = g.T.Texts.relations c.args.texts.now in
    let d = document_seen c.args.document.now in
    let h = option_map (λ n. n.now) c.args.name in
    if_err c.from_residual.result c.in_err-tree.field-0.0 _ c.from_residual.ensures.1
    (subst (λ (ks : List Steps). Refuses r d c.args.depth c.args.levels (g.T.Texts.faults c.args.texts.now) (g.T.Texts.faults c.convert.new.texts) (tree_at r d c.args.depth c.args.levels (spot_of c.args.start.now ks h) (schema_view c.args.schema.now)) (fault_view c.in_err-tree.field-0.0))
    c.new-trail.ensures.items c.in_err-tree.ensures.refused)
