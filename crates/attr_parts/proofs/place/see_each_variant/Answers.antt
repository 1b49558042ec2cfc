use Rattle.std.proofs.Common.{refl}
use Rattle.syntax_trees.specs.Item.{variant_view}
use Rattle.attr_parts.specs.Places.{variant_spans, each_variant_spans}
use Rattle.attr_parts.proofs.Reached.{next_reached}
use Rattle.attr_parts.proofs.place.see_each_variant.Goals as goal

pub loop-item-preserved : goal.loop-item-preserved
loop-item-preserved c =
    let l = c.loop-item in
    next_reached variant_view each_variant_spans variant_spans (λ y ys. refl) l.reach _ _ c.args.from.now l.item-index c.item-item.result c.loop-item-test.true c.item-item.is c.see_variant-reach.ensures l.invariant
