use Rattle.std.proofs.Common.{◌≡◌, ◌++◌}
use Rattle.std.specs.Vec.Iter.{into_iter_items}
use Rattle.note_order.specs.Notes.{notes_view}
use Rattle.typify_convert.proofs.keeping.take_notes.Given as goal

abbrev pub invariant-loop-note : goal.invariant-loop-note
invariant-loop-note l = notes_view l.notes.items ++ notes_view (into_iter_items l.note-iterator) ≡ notes_view l.fn.notes.items ++ notes_view l.fn.more.items
