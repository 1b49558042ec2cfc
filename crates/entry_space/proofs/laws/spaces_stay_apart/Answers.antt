use Rattle.entry_space.proofs.Grown.{stays-apart}
use Rattle.entry_space.proofs.laws.spaces_stay_apart.Goals as goal

pub returns : goal.returns
returns c = stays-apart
