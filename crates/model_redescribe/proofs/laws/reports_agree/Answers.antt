use Rattle.model_redescribe.proofs.Agree.{reports_agree}
use Rattle.model_redescribe.proofs.laws.reports_agree.Goals as goal

pub returns : goal.returns
returns c = reports_agree
