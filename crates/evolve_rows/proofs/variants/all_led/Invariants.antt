use Rattle.std.proofs.Common.{◌≡◌, drop, Some}
use Rattle.value_models.specs.ContainerView.{variants_in}
use Rattle.value_models.specs.VariantView.{variants_view}
use Rattle.evolve_rows.specs.Led.{joined, all_led}
use Rattle.evolve_rows.specs.TurnView.{pairs_view}
use Rattle.evolve_rows.proofs.variants.all_led.Given as goal

abbrev pub invariant-loop-place : goal.invariant-loop-place
invariant-loop-place l =
    joined (Some (pairs_view l.pairs.items)) (all_led l.beside l.old_home l.home l.place (variants_view (drop l.place l.old)) (variants_in l.new))
    ≡ all_led l.beside l.old_home l.home 0 (variants_view l.old) (variants_in l.new)
