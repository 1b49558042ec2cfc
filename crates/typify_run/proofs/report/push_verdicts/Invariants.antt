use Rattle.std.proofs.Common.{◌≡◌, ◌++◌, map, take, string_bytes}
use Rattle.derive_model.specs.VerdictView.{verdict_view}
use Rattle.typify_run.specs.Page.{verdict_lines}
use Rattle.typify_run.proofs.report.push_verdicts.Given as goal

abbrev pub invariant-loop-index : goal.invariant-loop-index
invariant-loop-index l = string_bytes l.out ≡ string_bytes l.initial.out ++ verdict_lines 0 (map verdict_view (take l.index l.verdicts))
