use Rattle.serde_json.specs.View.{view}
use Rattle.describe_run.proofs.Answered.{described_by, not_plain}
use Rattle.describe_run.proofs.describing.described.Goals as goal

pub returns-in-Ok-clause-described : goal.returns-in-Ok-clause-described
returns-in-Ok-clause-described c = described_by c.args.report.now c.deref.result.now c.deref.ensures.value (view c.in-Ok.value) c.in-Ok.ensures.plain c.in-Ok.ensures.document c.in-Ok.ensures.value

pub returns-in-Err-clause-refused : goal.returns-in-Err-clause-refused
returns-in-Err-clause-refused c = not_plain c.args.report.now c.deref.result.now c.deref.ensures.value c.in-Err.refused c.in-Err.ensures.refused
