use Rattle.std.proofs.Common.{sym, ap}
use Rattle.schema_types.specs.View.{schema_view}
use Rattle.schema_types.specs.DocumentView.{document_view}
use Rattle.merge_defs.specs.Merge.{less_layer}
use Rattle.merge_walks.specs.Walked.{left_side, unless_deep, walk_left}
use Rattle.merge_steps.proofs.Ending.{memory_goes}
use Rattle.merge_steps.proofs.Leading.{leads_by, led_goes}
use Rattle.merge_sides.proofs.Going.{goes_leads, off_unit}
use Rattle.merge_less.proofs.meeting.meet_less.Goals as goal

pub returns-in_err-walk : goal.returns-in_err-walk
returns-in_err-walk c = λ join less. memory_goes _ c.from_residual.ensures.1

pub returns-in_err-left : goal.returns-in_err-left
returns-in_err-left c = λ join less.
    let d = document_view c.args.document.now in
    let a = schema_view c.args.first.now in
    let b = schema_view c.args.second.now in
    let w = walk_left a b in
    off_unit _ _ c.from_residual-in_err-left.ensures.1 (c.in_err-left.ensures (λ s. unless_deep c.args.most b (λ t. less_layer d join less (left_side t w s) t)) _)

pub returns-in_err-taken : goal.returns-in_err-taken
returns-in_err-taken c = λ join less.
    let d = document_view c.args.document.now in
    let a = schema_view c.args.first.now in
    let b = schema_view c.args.second.now in
    let w = walk_left a b in
    let s = schema_view c.in_ok-left.left in
    led_goes (goes_leads _ (c.in_ok-left.ensures (λ s. unless_deep c.args.most b (λ t. less_layer d join less (left_side t w s) t)) _))
    (off_unit _ _ c.from_residual-in_err-taken.ensures.1 (c.in_err-taken.ensures (λ t. less_layer d join less (left_side t w s) t) _))

pub returns-in_err-object : goal.returns-in_err-object
returns-in_err-object c = λ join less. memory_goes _ c.from_residual-in_err-object.ensures.1

pub returns : goal.returns
returns c = λ join less.
    let d = document_view c.args.document.now in
    let a = schema_view c.args.first.now in
    let b = schema_view c.args.second.now in
    let w = walk_left a b in
    let s = schema_view c.in_ok-left.left in
    let t = schema_view c.in_ok-taken.taken in
    led_goes (goes_leads _ (c.in_ok-left.ensures (λ s. unless_deep c.args.most b (λ t. less_layer d join less (left_side t w s) t)) _))
    (led_goes (goes_leads _ (c.in_ok-taken.ensures (λ t. less_layer d join less (left_side t w s) t) _))
    (led_goes (leads_by (λ i. less_layer d join less (left_side t (sym c.in_ok-walk.ensures i) s) t))
    (led_goes (leads_by (ap (λ u. less_layer d join less u t) (sym c.in_ok-object.ensures))) (c.two_sides.ensures join less))))
