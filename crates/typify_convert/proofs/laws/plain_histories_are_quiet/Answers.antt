use Rattle.typify_convert.proofs.Plainly.{plain_histories_are_quiet}
use Rattle.typify_convert.proofs.laws.plain_histories_are_quiet.Goals as goal

pub returns : goal.returns
returns c = plain_histories_are_quiet
