use Rattle.std.proofs.Common.{refl}
use Rattle.schema_types.specs.View.{schema_view}
use Rattle.schema_types.specs.DocumentView.{document_view}
use Rattle.merge_steps.proofs.Ending.{memory_goes}
use Rattle.merge_sides.specs.Met.{referred_view}
use Rattle.merge_sides.proofs.Asking.{asks, asks_nothing}
use Rattle.merge_sides.proofs.Going.{handed_on}
use Rattle.merge_sides.proofs.references.asked.Goals as goal

pub returns : goal.returns
returns c = λ join less. asks (document_view c.args.document.now) join less _ _ c.args.is_lossy (referred_view c.args.referred) (schema_view c.args.other) _ c.in_ok-note_if.ensures c.in_ok-target.ensures refl refl

pub returns-in_err-note_if : goal.returns-in_err-note_if
returns-in_err-note_if c = λ join less. memory_goes _ c.from_residual.ensures.1

pub returns-in_err-target : goal.returns-in_err-target
returns-in_err-target c = λ join less.
    handed_on _ _ c.from_residual-in_err-target.ensures.1
    (asks_nothing (document_view c.args.document.now) join less _ _ c.args.is_lossy (referred_view c.args.referred) (schema_view c.args.other) _ c.in_ok-note_if.ensures c.in_err-target.ensures)
