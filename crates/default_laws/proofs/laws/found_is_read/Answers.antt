use Rattle.default_laws.proofs.Values.{found_is_read}
use Rattle.default_laws.proofs.laws.found_is_read.Goals as goal

pub returns : goal.returns
returns c = found_is_read
