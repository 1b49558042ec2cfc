use Rattle.derive_ast.specs.Views.{field_view}
use Rattle.item_forms.proofs.Named.{new_seen}
use Rattle.item_forms.proofs.beside.repeats_name.Goals as goal

-- src/beside.rt
pub loop-field-preserved : goal.loop-field-preserved
loop-field-preserved c =
    new_seen field_view c.args.fields.now c.loop-field.field-index c.field-item.result c.loop-field-test.true c.field-item.is c.loop-field.seen c.insert.new.self c.name_of.result c.name_of.ensures
    c.in_ok-insert.field-0 c.in_ok-insert.ensures.added _ c.if-not-branch.false c.in_ok-insert.ensures.updates c.loop-field.invariant
