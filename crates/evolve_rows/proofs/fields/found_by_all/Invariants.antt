use Rattle.std.proofs.Common.{◌≡◌, drop}
use Rattle.model_defs.specs.Reads.{leads_to_option}
use Rattle.evolve_rows.specs.Found.{found_view, gathered, refs_view}
use Rattle.evolve_rows.specs.PlaceView.{table_view}
use Rattle.evolve_rows.proofs.fields.found_by_all.Given as goal

abbrev pub invariant-loop-field : goal.invariant-loop-field
invariant-loop-field l =
    gathered (leads_to_option (table_view l.table).models) (refs_view (drop l.field-index l.new)) (found_view l.found)
    ≡ gathered (leads_to_option (table_view l.table).models) (refs_view l.new) (found_view l.fn.before)
