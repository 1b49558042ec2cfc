use Rattle.std.proofs.Common.{◌∙◌, ap, sym}
use Rattle.schema_types.specs.View.{schema_view}
use Rattle.schema_types.specs.DocumentView.{document_view}
use Rattle.merge_steps.proofs.Leading.{leads_by, led_goes}
use Rattle.merge_less.specs.Rows.{rows}
use Rattle.merge_less.proofs.Rowing.{rows_of}
use Rattle.merge_less.proofs.meeting.two_sides.Goals as goal

pub returns : goal.returns
returns c = λ join less.
    let s = schema_view c.args.first in
    let t = schema_view c.args.second in
    led_goes (leads_by (rows_of (document_view c.args.document.now) join less s t ∙ ap (λ b. rows join less b s t) (sym c.is_exact-exact.ensures))) (c.rows.ensures join less)
