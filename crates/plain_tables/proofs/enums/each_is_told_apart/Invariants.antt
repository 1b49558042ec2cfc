use Rattle.std.proofs.Common.{◌≡◌, drop}
use Rattle.std.specs.List.{list_all}
use Rattle.value_models.specs.VariantView.{variants_view}
use Rattle.describe_defs.specs.Plain.{is_told_apart}
use Rattle.plain_tables.proofs.enums.each_is_told_apart.Given as goal

abbrev pub invariant-loop-variant : goal.invariant-loop-variant
invariant-loop-variant l = list_all (is_told_apart l.closed) (variants_view l.variants) ≡ list_all (is_told_apart l.closed) (variants_view (drop l.variant-index l.variants))
