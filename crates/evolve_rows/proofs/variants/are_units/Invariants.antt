use Rattle.std.proofs.Common.{◌≡◌, drop}
use Rattle.std.specs.List.{list_all}
use Rattle.model_defs.specs.Layer.{is_unit}
use Rattle.value_models.specs.VariantView.{variants_view}
use Rattle.evolve_rows.proofs.variants.are_units.Given as goal

abbrev pub invariant-loop-variant : goal.invariant-loop-variant
invariant-loop-variant l = list_all is_unit (variants_view l.variants) ≡ list_all is_unit (variants_view (drop l.variant-index l.variants))
