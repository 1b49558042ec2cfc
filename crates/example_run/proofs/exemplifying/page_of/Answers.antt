use Rattle.serde_json.specs.View.{view}
use Rattle.example_run.proofs.exemplifying.page_of.Goals as goal

pub returns : goal.returns
returns c = record { value = view c.args.value.now; answered = c.requires; written = c.in_ok-text.ensures }
