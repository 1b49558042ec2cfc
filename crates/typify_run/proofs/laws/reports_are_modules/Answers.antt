use Rattle.typify_run.proofs.Again.{reports_are_modules}
use Rattle.typify_run.proofs.laws.reports_are_modules.Goals as goal

pub returns : goal.returns
returns c = reports_are_modules
