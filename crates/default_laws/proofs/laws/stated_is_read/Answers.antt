use Rattle.default_laws.proofs.Values.{stated_is_read}
use Rattle.default_laws.proofs.laws.stated_is_read.Goals as goal

pub returns : goal.returns
returns c = stated_is_read
