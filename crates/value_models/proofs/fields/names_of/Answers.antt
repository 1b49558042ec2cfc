use Rattle.std.proofs.Common.{◌≡◌}
use Rattle.name_tables.specs.Names.{all_entered}
use Rattle.value_models.specs.Names.{names_at}
use Rattle.value_models.specs.FieldView.{field_view}
use Rattle.value_models.proofs.Tables.{field_turn}
use Rattle.value_models.proofs.fields.names_of.Goals as goal

pub loop-place-preserved : goal.loop-place-preserved
loop-place-preserved c =
    let next : c.enter_field.new.names ≡ all_entered (names_at c.loop-place.place (field_view c.index-fields-place.result)) c.loop-place.names = cc (c.in_ok-enter_field.ensures, c.index-fields-place.is) in
    field_turn c.args.fields.now c.loop-place.place c.index-fields-place.result _ _ _ c.loop-place-test.true c.index-fields-place.is next c.loop-place.invariant
