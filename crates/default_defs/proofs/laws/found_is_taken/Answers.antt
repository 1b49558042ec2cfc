use Rattle.default_defs.proofs.Taken.{found_is_taken}
use Rattle.default_defs.proofs.laws.found_is_taken.Goals as goal

pub returns : goal.returns
returns c = found_is_taken
