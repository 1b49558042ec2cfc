use Rattle.std.proofs.Common.{◌≡◌, ◌++◌, map}
use Rattle.std.specs.Vec.Iter.{into_iter_items}
use Rattle.note_order.specs.Notes.{notes_view}
use Rattle.convert_document.specs.Note.{note_of}
use Rattle.convert_document.proofs.noting.notes_of.Given as goal

abbrev pub invariant-loop-note : goal.invariant-loop-note
invariant-loop-note l = l.notes.items ++ map note_of (notes_view (into_iter_items l.note-iterator)) ≡ map note_of (notes_view l.fn.placed.items)
