use Rattle.std.proofs.Common.{◌≡◌, drop}
use Rattle.std.specs.List.{list_all}
use Rattle.value_models.specs.VariantView.{variants_view}
use Rattle.value_models.specs.ContainersView.{containers_in}
use Rattle.describe_defs.specs.Plain.{is_plain_variant}
use Rattle.plain_tables.specs.Among.{no_conversions}
use Rattle.plain_tables.proofs.enums.each_is_plain.Given as goal

abbrev pub invariant-loop-variant : goal.invariant-loop-variant
invariant-loop-variant l =
    list_all (is_plain_variant (containers_in l.table.containers) no_conversions l.closed) (variants_view l.variants)
    ≡ list_all (is_plain_variant (containers_in l.table.containers) no_conversions l.closed) (variants_view (drop l.variant-index l.variants))
