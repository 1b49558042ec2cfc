use Rattle.merge_laws.proofs.Theorem.{merges_are_meets}
use Rattle.merge_laws.proofs.laws.merges_are_meets.Goals as goal

pub returns : goal.returns
returns c = merges_are_meets
