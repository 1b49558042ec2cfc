use Rattle.std.proofs.Common.{◌≡◌, ◌++◌, None, drop, map}
use Rattle.convert_walks.specs.Told.{placed_note}
use Rattle.row_findings.specs.View.{branch_view, note_view}
use Rattle.merged_rows.specs.Starts.{spot_of}
use Rattle.note_order.specs.Notes.{notes_view}
use Rattle.merged_rows.proofs.notes.push_row_notes.Given as goal

abbrev pub invariant-loop-note : goal.invariant-loop-note
invariant-loop-note l =
    notes_view l.told.items ++ map (placed_note (spot_of l.start l.trail.items None) (map branch_view l.branches.items)) (map note_view (drop l.note-index l.note-items))
    ≡ notes_view l.initial.told.items ++ map (placed_note (spot_of l.start l.trail.items None) (map branch_view l.branches.items)) (map note_view l.note-items)
