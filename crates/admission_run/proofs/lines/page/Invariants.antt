-- The lines of the answers so far.
use Rattle.std.proofs.Common.{◌≡◌, take, string_bytes}
use Rattle.admission_run.specs.Page.{lines_from}
use Rattle.admission_run.proofs.lines.page.Given as goal

abbrev pub invariant-loop-index : goal.invariant-loop-index
invariant-loop-index l = string_bytes l.text ≡ lines_from 0 (take l.index l.answers)
