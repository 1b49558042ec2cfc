use Rattle.std.proofs.Common.{◌≡◌, drop}
use Rattle.std.specs.List.{list_any}
use Rattle.value_models.specs.VariantView.{variants_view}
use Rattle.example_defs.specs.Outside.{names_native}
use Rattle.example_parts.proofs.OddTypes.{of_variants}
use Rattle.example_parts.proofs.odd.variants_name_native.Given as goal

abbrev pub invariant-loop-variant : goal.invariant-loop-variant
invariant-loop-variant l = list_any names_native (of_variants (variants_view l.variants)) ≡ list_any names_native (of_variants (variants_view (drop l.variant-index l.variants)))
