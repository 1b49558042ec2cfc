use Rattle.std.proofs.Common.{◌≡◌, drop}
use Rattle.value_models.specs.VariantView.{variants_view}
use Rattle.value_models.specs.ContainersView.{containers_in}
use Rattle.writing_laws.specs.Kinds.{variants_are_apart}
use Rattle.plain_tables.specs.Apart.{are_clear}
use Rattle.plain_tables.proofs.enums.variants_are_apart.Given as goal

abbrev pub invariant-loop-variant : goal.invariant-loop-variant
invariant-loop-variant l =
    variants_are_apart (containers_in l.table.containers) l.closed (variants_view l.variants) ≡ are_clear (containers_in l.table.containers) l.closed l.seen (variants_view (drop l.variant-index l.variants))
