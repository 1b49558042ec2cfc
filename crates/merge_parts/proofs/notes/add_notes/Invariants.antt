use Rattle.std.proofs.Common.{◌≡◌, ◌++◌, take}
use Rattle.merge_parts.specs.View.{notes_view}
use Rattle.merge_parts.proofs.notes.add_notes.Given as goal

abbrev pub invariant-loop-one : goal.invariant-loop-one
invariant-loop-one l = notes_view l.notes.items ≡ notes_view l.fn.notes.items ++ notes_view (take l.one-index l.one-items)
