use Rattle.std.proofs.Common.{◌∙◌, ◌≡◌, sym, ap}
use Rattle.std.specs.Prelude.{Some, option_and_then}
use Rattle.schema_defs.specs.Admits.{target}
use Rattle.schema_types.specs.DocumentView.{document_view}
use Rattle.schema_types.specs.View.{schema_view}
use Rattle.enum_defs.specs.Exclusive.{reference_alone, or_stays, led}
use Rattle.enum_defs.proofs.Weights.{alone-lighter}
use Rattle.enum_defs.proofs.Spare.{led-unfolds}
use Rattle.enum_kinds.proofs.alone.led.Goals as goal

pub loop-target-smaller : goal.loop-target-smaller
loop-target-smaller c =
    let d = document_view c.args.document.now in
    let s = schema_view c.loop-target.at.now in
    let e : option_and_then (target d) (reference_alone s) ≡ Some (schema_view c.in-Some.target.now) = sym c.in-Some.ensures in
    alone-lighter d c.requires s (schema_view c.in-Some.target.now) e

pub loop-target-preserved : goal.loop-target-preserved
loop-target-preserved c =
    let d = document_view c.args.document.now in
    let s = schema_view c.loop-target.at.now in
    let e : option_and_then (target d) (reference_alone s) ≡ Some (schema_view c.in-Some.target.now) = sym c.in-Some.ensures in
    sym (led-unfolds d c.requires s ∙ ap (or_stays (led d) s) e) ∙ c.loop-target.invariant
