use Rattle.std.proofs.Common.{◌≡◌}
use Rattle.name_tables.specs.Names.{all_entered}
use Rattle.value_models.specs.Names.{at_one_place}
use Rattle.value_models.specs.VariantView.{variant_view}
use Rattle.value_models.proofs.Tables.{variant_turn}
use Rattle.value_models.proofs.variants.names_of.Goals as goal

pub loop-place-preserved : goal.loop-place-preserved
loop-place-preserved c =
    let next : c.enter_variant.new.names ≡ all_entered (at_one_place c.loop-place.place (variant_view c.index-variants-place.result).deserialize_names) c.loop-place.names = cc (c.in_ok-enter_variant.ensures, c.index-variants-place.is) in
    variant_turn c.args.variants.now c.loop-place.place c.index-variants-place.result _ _ _ c.loop-place-test.true c.index-variants-place.is next c.loop-place.invariant
