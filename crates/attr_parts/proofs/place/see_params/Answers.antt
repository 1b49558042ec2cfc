use Rattle.std.proofs.Common.{refl}
use Rattle.syntax_trees.specs.Item.{param_view}
use Rattle.attr_parts.specs.Places.{param_spans, params_spans}
use Rattle.attr_parts.proofs.Reached.{next_reached}
use Rattle.attr_parts.proofs.place.see_params.Goals as goal

pub loop-item-preserved : goal.loop-item-preserved
loop-item-preserved c =
    let l = c.loop-item in
    next_reached param_view params_spans param_spans (λ y ys. refl) l.reach _ _ c.args.from.now l.item-index c.item-item.result c.loop-item-test.true c.item-item.is c.see_param-reach.ensures l.invariant
