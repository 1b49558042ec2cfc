use Rattle.merge_laws.proofs.BareCalls.{bare_calls_end}
use Rattle.merge_laws.proofs.laws.bare_calls_end.Goals as goal

pub returns : goal.returns
returns c = bare_calls_end
