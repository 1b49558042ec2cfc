use Rattle.std.proofs.Common.{◌++◌, ap, ◌∙◌}
use Rattle.value_models.specs.ContainersView.{containers_in}
use Rattle.item_uses.specs.Uses.{item_places, field_items}
use Rattle.item_uses.proofs.Gathered.{variant_turn}
use Rattle.item_uses.proofs.uses.push_variants.Goals as goal

pub loop-variant-preserved : goal.loop-variant-preserved
loop-variant-preserved c =
    let ms = containers_in c.args.places.now.containers.now in
    variant_turn ms c.args.variants.now c.loop-variant.variant-index c.variant-item.result c.loop-variant.used.items c.push_fields.new.used.items _ c.loop-variant-test.true c.variant-item.is
    (c.in_ok-push_fields.ensures ∙ ap (λ fs. c.loop-variant.used.items ++ item_places ms (field_items fs)) c.fields.ensures) c.loop-variant.invariant
