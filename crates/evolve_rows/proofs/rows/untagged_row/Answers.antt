use Rattle.value_models.specs.VariantView.{variant_view, variants_view}
use Rattle.evolve_defs.specs.Spots.{untagged_turn}
use Rattle.evolve_rows.specs.PlaceView.{place_view, table_view}
use Rattle.evolve_rows.proofs.Untagged.{meets, not_read}
use Rattle.evolve_rows.proofs.rows.untagged_row.Goals as goal

pub loop-place-preserved : goal.loop-place-preserved
loop-place-preserved c =
    let old = table_view c.args.tables.now.old in
    let new = table_view c.args.tables.now.new in
    let p = place_view c.args.pair.old in
    let q = place_view c.args.pair.new in
    let x = c.index-variants-place.result in
    λ closed. not_read old new p q c.args.home.now closed c.args.variants.now c.loop-place.place x c.meets.result (untagged_turn old new p q c.args.home.now closed 0 (variants_view c.args.variants.now)) c.loop-place-test.true c.index-variants-place.is
    (meets old new p q c.args.home.now closed c.place_kinds-kinds.result c.content_kinds.result c.meets.result (variant_view x) c.place_kinds-kinds.ensures (c.content_kinds.ensures closed) c.meets.ensures)
    c.if-meets.false (c.loop-place.invariant closed)
