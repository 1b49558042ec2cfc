use Rattle.std.proofs.Common.{◌≡◌, ◌++◌, map, drop}
use Rattle.value_models.specs.VariantView.{variants_view}
use Rattle.value_models.specs.ContainerView.{tag_view}
use Rattle.json_value.specs.View.{kept_view}
use Rattle.describe_defs.specs.Written.{variant_value}
use Rattle.described_values.proofs.enums.variant_values.Given as goal

abbrev pub invariant-loop-variant : goal.invariant-loop-variant
invariant-loop-variant l =
    map kept_view l.values.items ++ map (variant_value l.closed (tag_view l.tag)) (variants_view (drop l.variant-index l.variants)) ≡ map (variant_value l.closed (tag_view l.tag)) (variants_view l.variants)
