use Rattle.entry_space.proofs.Grown.{grows}
use Rattle.entry_space.proofs.Keys.{same-is}
use Rattle.entry_space.proofs.laws.spaces_grow.Goals as goal

pub returns : goal.returns
returns c = (grows, same-is)
