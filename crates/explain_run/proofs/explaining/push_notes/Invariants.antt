use Rattle.std.proofs.Common.{◌≡◌, ◌++◌, take, string_bytes}
use Rattle.explain_run.specs.Answers.{notes_explained}
use Rattle.explain_run.proofs.explaining.push_notes.Given as goal

abbrev pub invariant-loop-note : goal.invariant-loop-note
invariant-loop-note l = string_bytes l.out ≡ string_bytes l.initial.out ++ notes_explained (take l.note-index l.notes)
