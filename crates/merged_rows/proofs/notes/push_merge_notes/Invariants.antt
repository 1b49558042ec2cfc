use Rattle.std.proofs.Common.{◌≡◌, ◌++◌, None, drop, map}
use Rattle.convert_walks.specs.Told.{merge_note}
use Rattle.merge_parts.specs.View as merges
use Rattle.merged_rows.specs.Starts.{spot_of}
use Rattle.note_order.specs.Notes.{notes_view}
use Rattle.merged_rows.proofs.notes.push_merge_notes.Given as goal

abbrev pub invariant-loop-note : goal.invariant-loop-note
invariant-loop-note l =
    notes_view l.told.items ++ map (merge_note (spot_of l.start l.trail.items None)) (merges.notes_view (drop l.note-index l.note-items))
    ≡ notes_view l.initial.told.items ++ map (merge_note (spot_of l.start l.trail.items None)) (merges.notes_view l.note-items)
