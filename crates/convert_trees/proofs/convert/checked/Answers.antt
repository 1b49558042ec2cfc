use Rattle.schema_tree.specs.Document.{view as document_seen}
use Rattle.merged_rows.specs.Starts.{spot_of}
use Rattle.row_findings.specs.Given.{source_view}
use Rattle.row_findings.specs.View.{finding_view}
use Rattle.convert_trees.proofs.Ends.{if_err}
use Rattle.convert_trees.proofs.Here.{branches_here, own_here}
use Rattle.convert_trees.proofs.Telling.{want_refuses}
use Rattle.convert_trees.proofs.convert.checked.Goals as goal

pub returns-in_err-check_own-clause-refused : goal.returns-in_err-check_own-clause-refused
returns-in_err-check_own-clause-refused g c =
    let r = g.T.Texts.relations c.args.texts.now in
    let d = document_seen c.args.scope.now.document.now in
    if_err c.from_residual.result c.in_err-check_own.field-0.0 _ c.from_residual.ensures.1
    (λ n h e p w. own_here r d c.args.scope.now.depth n (spot_of c.args.scope.now.start.now c.args.trail.now.items h) (source_view c.args.source.now) (finding_view r c.args.finding.now) e w p _ _ _
    (c.in_err-check_own.ensures.refused d))

pub returns-in_err-keep_notes-clause-refused : goal.returns-in_err-keep_notes-clause-refused
returns-in_err-keep_notes-clause-refused g c =
    if_err c.from_residual-in_err-keep_notes.result c.in_err-keep_notes.field-0.0 _ c.from_residual-in_err-keep_notes.ensures.1
    (λ n h e p w. want_refuses _ _ _ _ _ _ _ _ c.in_err-keep_notes.ensures.memory)

pub returns-in_err-check_branches-clause-refused : goal.returns-in_err-check_branches-clause-refused
returns-in_err-check_branches-clause-refused g c =
    let r = g.T.Texts.relations c.args.texts.now in
    let d = document_seen c.args.scope.now.document.now in
    if_err c.from_residual-in_err-check_branches.result c.in_err-check_branches.field-0.0 _ c.from_residual-in_err-check_branches.ensures.1
    (λ n h e p w. branches_here r d c.args.scope.now.depth n (spot_of c.args.scope.now.start.now c.args.trail.now.items h) (source_view c.args.source.now) (finding_view r c.args.finding.now) e w p
    (c.in_ok-check_own.ensures.fine d) _ _ _ (c.in_err-check_branches.ensures.refused r d n h _ _))
