use Rattle.attr_defs.specs.Texts.{string_step}
use Rattle.attr_acts.specs.Parts.{part_view}
use Rattle.attr_acts.proofs.Loops.{mapped_drop}
use Rattle.attr_acts.proofs.HalfSteps.{left_on}
use Rattle.attr_acts.proofs.halves.texts_in.Goals as goal

pub loop-part-preserved : goal.loop-part-preserved
loop-part-preserved c =
    let e = mapped_drop part_view c.args.parts.now c.loop-part.part-index c.part-item.result c.loop-part-test.true c.part-item.is in
    left_on c.args.name.0.now (string_step c.args.name.0.now) (part_view c.part-item.result) _ _ _ _ _ _ _ c.in_ok-text_part.field-0 _ e c.loop-part.invariant c.in_ok-text_part.ensures c.if-not-branch.false
