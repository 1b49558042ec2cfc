use Rattle.std.proofs.Common.{string_bytes}
use Rattle.example_run.proofs.Answered.{outside_told}
use Rattle.example_run.proofs.exemplifying.outside_of.Goals as goal

pub returns : goal.returns
returns c = outside_told c.args.report.now c.deref.result.now c.args.item (string_bytes c.in_ok-line.line) c.deref.ensures.value c.requires c.in_ok-line.ensures
