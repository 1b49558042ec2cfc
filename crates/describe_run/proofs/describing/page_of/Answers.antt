use Rattle.serde_json.specs.View.{view}
use Rattle.describe_run.proofs.describing.page_of.Goals as goal

pub returns : goal.returns
returns c = record { value = view c.args.value.now; described = c.requires; written = c.in_ok-text.ensures }
