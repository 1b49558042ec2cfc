use Rattle.row_findings.specs.View.{finding_view}
use Rattle.convert_trees.proofs.Causes.{all_fine, first_refuses, row_refuses, second_refuses}
use Rattle.convert_trees.proofs.Ends.{if_err}
use Rattle.convert_trees.proofs.own.check_own.Goals as goal

pub returns-in_err-check_patterns-clause-refused : goal.returns-in_err-check_patterns-clause-refused
returns-in_err-check_patterns-clause-refused g c =
    let r = g.T.Texts.relations c.args.texts.now in
    let fd = finding_view r c.args.finding.now in
    if_err c.from_residual.result c.in_err-check_patterns.field-0.0 _ c.from_residual.ensures.1
    (λ d. first_refuses r d c.args.scope.now.depth fd _ _ _ _ _ c.in_err-check_patterns.ensures.refused)

pub returns-in_err-check_places-clause-refused : goal.returns-in_err-check_places-clause-refused
returns-in_err-check_places-clause-refused g c =
    let r = g.T.Texts.relations c.args.texts.now in
    let fd = finding_view r c.args.finding.now in
    if_err c.from_residual-in_err-check_places.result c.in_err-check_places.field-0.0 _ c.from_residual-in_err-check_places.ensures.1
    (λ d. second_refuses r d c.args.scope.now.depth fd _ _ _ _ _ c.in_ok-check_patterns.ensures.fine (c.in_err-check_places.ensures.refused r _ _))

pub returns-in_err-check_row-clause-refused : goal.returns-in_err-check_row-clause-refused
returns-in_err-check_row-clause-refused g c =
    let r = g.T.Texts.relations c.args.texts.now in
    let fd = finding_view r c.args.finding.now in
    if_err c.from_residual-in_err-check_row.result c.in_err-check_row.field-0.0 _ c.from_residual-in_err-check_row.ensures.1
    (λ d. row_refuses r d c.args.scope.now.depth fd _ _ _ _ _ c.in_ok-check_patterns.ensures.fine c.in_ok-check_places.ensures.fine (c.in_err-check_row.ensures.refused r))

pub returns-clause-fine : goal.returns-clause-fine
returns-clause-fine g c =
    let r = g.T.Texts.relations c.args.texts.now in
    let n = c.args.scope.now.depth in
    λ d. all_fine r d n (finding_view r c.args.finding.now) c.in_ok-check_patterns.ensures.fine c.in_ok-check_places.ensures.fine (c.in_ok-check_row.ensures.fine r d n)
