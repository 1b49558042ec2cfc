use Rattle.std.proofs.Common.{refl}
use Rattle.syntax_trees.specs.Item.{field_view}
use Rattle.attr_parts.specs.Places.{field_spans, each_field_spans}
use Rattle.attr_parts.proofs.Reached.{next_reached}
use Rattle.attr_parts.proofs.place.see_each_field.Goals as goal

pub loop-item-preserved : goal.loop-item-preserved
loop-item-preserved c =
    let l = c.loop-item in
    next_reached field_view each_field_spans field_spans (λ y ys. refl) l.reach _ _ c.args.from.now l.item-index c.item-item.result c.loop-item-test.true c.item-item.is c.see_field-reach.ensures l.invariant
