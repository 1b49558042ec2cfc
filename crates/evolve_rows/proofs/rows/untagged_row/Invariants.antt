use Rattle.std.proofs.Common.{◌≡◌, Bool, drop}
use Rattle.value_models.specs.VariantView.{variants_view}
use Rattle.evolve_defs.specs.Spots.{untagged_turn}
use Rattle.evolve_rows.specs.PlaceView.{place_view, table_view}
use Rattle.evolve_rows.proofs.rows.untagged_row.Given as goal

abbrev pub invariant-loop-place : goal.invariant-loop-place
invariant-loop-place l =
    (closed : Bool)
    → untagged_turn (table_view l.tables.old) (table_view l.tables.new) (place_view l.pair.old) (place_view l.pair.new) l.home closed l.place (variants_view (drop l.place l.variants))
    ≡ untagged_turn (table_view l.tables.old) (table_view l.tables.new) (place_view l.pair.old) (place_view l.pair.new) l.home closed 0 (variants_view l.variants)
