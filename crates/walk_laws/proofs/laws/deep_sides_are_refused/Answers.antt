use Rattle.walk_laws.proofs.MoreLevels.{deep_sides_are_refused}
use Rattle.walk_laws.proofs.laws.deep_sides_are_refused.Goals as goal

pub returns : goal.returns
returns c = deep_sides_are_refused
