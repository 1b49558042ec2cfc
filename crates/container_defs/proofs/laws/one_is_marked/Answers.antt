use Rattle.container_defs.proofs.Marks.{one_is_marked}
use Rattle.container_defs.proofs.laws.one_is_marked.Goals as goal

pub returns : goal.returns
returns c = one_is_marked
