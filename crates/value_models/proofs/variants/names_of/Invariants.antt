use Rattle.std.proofs.Common.{◌≡◌, [], drop}
use Rattle.name_tables.specs.Names.{all_entered}
use Rattle.value_models.specs.Names.{variant_names}
use Rattle.value_models.specs.VariantView.{variants_view}
use Rattle.value_models.proofs.variants.names_of.Given as goal

abbrev pub invariant-loop-place : goal.invariant-loop-place
invariant-loop-place l = all_entered (variant_names l.place (variants_view (drop l.place l.variants))) l.names ≡ all_entered (variant_names 0 (variants_view l.variants)) []
