use Rattle.std.proofs.Common.{◌≡◌, ◌++◌, drop}
use Rattle.value_models.specs.VariantView.{variants_view}
use Rattle.evolve_defs.specs.Spots.{each_spot}
use Rattle.evolve_rows.specs.PlaceView.{place_view}
use Rattle.evolve_rows.specs.TurnView.{pairs_view}
use Rattle.evolve_rows.proofs.variants.each_variant.Given as goal

abbrev pub invariant-loop-place : goal.invariant-loop-place
invariant-loop-place l =
    pairs_view l.pairs.items ++ each_spot l.old_home (place_view l.new) l.place (variants_view (drop l.place l.old)) ≡ each_spot l.old_home (place_view l.new) 0 (variants_view l.old)
