use Rattle.attr_defs.specs.Texts.{lexed}
use Rattle.attr_acts.specs.Parts.{part_view}
use Rattle.attr_acts.proofs.Loops.{mapped_drop, metas_on, metas_end}
use Rattle.attr_rows.specs.OwnerView.{owner_view}
use Rattle.attr_rows.proofs.owner.acts_of.Goals as goal

pub loop-part-preserved : goal.loop-part-preserved
loop-part-preserved c =
    let l = c.loop-part in
    let o = owner_view c.args.owner in
    let next = mapped_drop part_view c.args.parts.now l.part-index c.part-item.result c.loop-part-test.true c.part-item.is in
    metas_on lexed o _ _ _ _ _ _ _ l.invariant next c.in_ok-one_meta.ensures.acts c.in_ok-one_meta.ensures.goes_on c.if-not-branch.false

pub returns-then-not-branch : goal.returns-then-not-branch
returns-then-not-branch c =
    let l = c.loop-part in
    let o = owner_view c.args.owner in
    let next = mapped_drop part_view c.args.parts.now l.part-index c.part-item.result c.loop-part-test.true c.part-item.is in
    metas_end lexed o _ _ _ _ _ _ _ l.invariant next c.in_ok-one_meta.ensures.acts c.in_ok-one_meta.ensures.goes_on c.if-not-branch.true
