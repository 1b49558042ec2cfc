use Rattle.merge_laws.proofs.Theorem.{never_is_empty}
use Rattle.merge_laws.proofs.laws.never_is_empty.Goals as goal

pub returns : goal.returns
returns c = never_is_empty
