use Rattle.std.proofs.Common.{◌≡◌, ◌++◌, take, string_bytes}
use Rattle.covers_run.specs.Page.{side_notes}
use Rattle.covers_run.proofs.head.push_notes.Given as goal

abbrev pub invariant-loop-note : goal.invariant-loop-note
invariant-loop-note l = string_bytes l.out ≡ string_bytes l.initial.out ++ side_notes l.side (take l.note-index l.notes)
