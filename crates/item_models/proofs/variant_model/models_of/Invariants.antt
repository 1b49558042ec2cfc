use Rattle.std.proofs.Common.{◌≡◌, take, map}
use Rattle.container_defs.specs.Reader.{variant_model}
use Rattle.derive_ast.specs.Views.{variant_view as read_view}
use Rattle.value_models.specs.VariantView.{variants_view}
use Rattle.item_models.proofs.variant_model.models_of.Given as goal

abbrev pub invariant-loop-variant : goal.invariant-loop-variant
invariant-loop-variant l = variants_view l.models.items ≡ map variant_model (map read_view (take l.variant-index l.variants))
