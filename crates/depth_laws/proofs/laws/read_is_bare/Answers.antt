use Rattle.depth_laws.proofs.Fresh.{read_is_bare}
use Rattle.depth_laws.proofs.laws.read_is_bare.Goals as goal

pub returns : goal.returns
returns c = read_is_bare
