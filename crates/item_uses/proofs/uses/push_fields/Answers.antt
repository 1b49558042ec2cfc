use Rattle.value_models.specs.ContainersView.{containers_in}
use Rattle.item_uses.proofs.Gathered.{field_turn}
use Rattle.item_uses.proofs.uses.push_fields.Goals as goal

pub loop-field-preserved : goal.loop-field-preserved
loop-field-preserved c =
    field_turn (containers_in c.args.places.now.containers.now) c.args.fields.now c.loop-field.field-index c.field-item.result c.loop-field.used.items c.push_type.new.used.items _ c.loop-field-test.true c.field-item.is
    c.in_ok-push_type.ensures c.loop-field.invariant
