use Rattle.std.proofs.Common.{string_bytes}
use Rattle.describe_run.proofs.Answered.{undescribed}
use Rattle.describe_run.proofs.describing.no_of.Goals as goal

pub returns : goal.returns
returns c = undescribed c.args.report.now c.deref.result.now c.args.item (string_bytes c.in_ok-line.line) c.deref.ensures.value c.requires c.in_ok-line.ensures
