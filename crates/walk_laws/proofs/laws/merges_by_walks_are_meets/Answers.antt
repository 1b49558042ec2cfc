use Rattle.walk_laws.proofs.Theorem.{merges_by_walks_are_meets}
use Rattle.walk_laws.proofs.laws.merges_by_walks_are_meets.Goals as goal

pub returns : goal.returns
returns c = merges_by_walks_are_meets
