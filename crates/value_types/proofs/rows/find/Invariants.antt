use Rattle.std.proofs.Common.{◌≡◌, map, drop}
use Rattle.value_types.specs.Paths.{names_of}
use Rattle.value_types.specs.RowView.{meaning_of, row_view}
use Rattle.value_types.proofs.rows.find.Given as goal

abbrev pub invariant-loop-row : goal.invariant-loop-row
invariant-loop-row l = meaning_of (map row_view l.rows) (names_of l.segments) ≡ meaning_of (map row_view (drop l.row-index l.rows)) (names_of l.segments)
