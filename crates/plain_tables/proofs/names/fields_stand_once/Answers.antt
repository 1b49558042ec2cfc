use Rattle.plain_tables.proofs.Once.{field_turn}
use Rattle.plain_tables.proofs.names.fields_stand_once.Goals as goal

pub loop-field-preserved : goal.loop-field-preserved
loop-field-preserved c =
    field_turn c.args.all c.args.fields.now c.loop-field.field-index c.field-item.result c.loop-field.names c.enter_field.new.names c.in_ok-enter_field.field-0 _ c.loop-field-test.true c.field-item.is
    c.in_ok-enter_field.ensures.answer c.if-not-branch.false c.in_ok-enter_field.ensures.entered c.loop-field.invariant
