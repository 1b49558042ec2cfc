use Rattle.attr_defs.specs.Texts.{lexed, predicates_step}
use Rattle.attr_acts.specs.Parts.{part_view}
use Rattle.attr_acts.proofs.HalfSteps.{left_on}
use Rattle.attr_acts.proofs.Loops.{mapped_drop}
use Rattle.attr_rows.proofs.bound.predicates_in_list.Goals as goal

pub loop-part-preserved : goal.loop-part-preserved
loop-part-preserved c =
    let l = c.loop-part in
    let n = c.args.name.0.now in
    let next = mapped_drop part_view c.args.parts.now l.part-index c.part-item.result c.loop-part-test.true c.part-item.is in
    left_on n (predicates_step lexed n) (part_view c.part-item.result) _ _ _ _ _ _ _ c.in_ok-predicates_part.field-0 _ next l.invariant c.in_ok-predicates_part.ensures c.if-not-branch.false
