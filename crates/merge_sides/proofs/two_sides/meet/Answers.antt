use Rattle.schema_types.specs.View.{schema_view}
use Rattle.schema_types.specs.DocumentView.{document_view}
use Rattle.merge_walks.specs.Walked.{unless_deep}
use Rattle.merge_steps.proofs.Leading.{led_goes}
use Rattle.merge_sides.specs.Referring.{sides_outcome}
use Rattle.merge_sides.proofs.Going.{goes_leads, off_unit}
use Rattle.merge_sides.proofs.two_sides.meet.Goals as goal

pub returns : goal.returns
returns c = λ join less.
    let d = document_view c.args.document.now in
    let b = schema_view c.args.second.now in
    led_goes (goes_leads _ (c.in_ok-first.ensures (λ s. unless_deep c.args.most b (sides_outcome d join less s)) _))
    (led_goes (goes_leads _ (c.in_ok-second.ensures (sides_outcome d join less (schema_view c.in_ok-first.first)) _)) (c.sides.ensures join less))

pub returns-in_err-first : goal.returns-in_err-first
returns-in_err-first c = λ join less.
    let d = document_view c.args.document.now in
    let b = schema_view c.args.second.now in
    off_unit _ _ c.from_residual.ensures.1 (c.in_err-first.ensures (λ s. unless_deep c.args.most b (sides_outcome d join less s)) _)

pub returns-in_err-second : goal.returns-in_err-second
returns-in_err-second c = λ join less.
    let d = document_view c.args.document.now in
    let b = schema_view c.args.second.now in
    led_goes (goes_leads _ (c.in_ok-first.ensures (λ s. unless_deep c.args.most b (sides_outcome d join less s)) _))
    (off_unit _ _ c.from_residual-in_err-second.ensures.1 (c.in_err-second.ensures (sides_outcome d join less (schema_view c.in_ok-first.first)) _))
