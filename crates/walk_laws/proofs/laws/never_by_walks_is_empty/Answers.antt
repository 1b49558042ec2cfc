use Rattle.walk_laws.proofs.Theorem.{never_by_walks_is_empty}
use Rattle.walk_laws.proofs.laws.never_by_walks_is_empty.Goals as goal

pub returns : goal.returns
returns c = never_by_walks_is_empty
