use Rattle.std.proofs.Common.{◌≡◌, length}
use Rattle.convert_walks.specs.Told.{ordered}
use Rattle.note_order.specs.Notes.{notes_view}
use Rattle.note_order.proofs.Kept.{onto}
use Rattle.note_order.proofs.sorted.kept_notes.Given as goal

abbrev pub invariant-loop-note : goal.invariant-loop-note
invariant-loop-note l = onto (notes_view l.notes.items) (notes_view l.kept.keys) ≡ ordered (notes_view l.fn.notes.items)

abbrev pub decreases-loop-note : goal.decreases-loop-note
decreases-loop-note l = length l.notes.items
